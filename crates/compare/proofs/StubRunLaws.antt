-- The verdict that a run gives from a position on.
use Rattle.std.proofs.Common.{◌≡◌, ℕ, zero, suc, ◌+◌, ◌*◌, ◌<◌, List, [], ◌∷◌, length, drop, refl, ap, sym, ◌∙◌, arith}
use Rattle.std.specs.Prelude.{Option, Some, None, slice_get}
use Rattle.std.specs.Option.{option_map}
use Rattle.bpf_insn.specs.declared.instruction.Insn.{Insn}
use Rattle.bpf_insn.specs.declared.code.Operation.{Operation}
use Rattle.bpf_insn.specs.declared.code.Operation.TheVariants.{LoadWord}
use Rattle.bpf_insn.specs.Bytes.{insns_of}
use Rattle.bpf_insn.specs.Code.{operation_of}
use Rattle.bpf_insn.specs.Machine.{Ending, Ends, Goes, Registers, after_one, ending, follow, loaded, perform_if, start, step, word_at}
use Rattle.bpf_insn.proofs.RunLaws.{ending_ends, ending_goes}
use Rattle.call_record.specs.Words.{word}
use Rattle.machines.specs.declared.numbers.Numbers.{Numbers}
use Rattle.machines.specs.Numbers.{IsWithin}
use Rattle.compare.specs.declared.behind_runc.stub.region.Region.{Region}
use Rattle.compare.specs.inner.Path.{BeginsWithLoad, IsIn, IsPart, IsPartOf, holding}

-- the verdict that is given from a position on
abbrev pub given : List Insn → ℕ → Registers → List ℕ → Option ℕ
given p pc s r = option_map (λ (end : ℕ × ℕ). end.0) (ending p pc s r)

after_word : (e : Ending) → option_map (λ (end : ℕ × ℕ). end.0) (after_one e) ≡ option_map (λ (end : ℕ × ℕ). end.0) e
after_word None = refl
after_word (Some end) = refl

-- an instruction that goes on leaves the verdict to those from there on
pub given_goes : (p : List Insn) (pc : ℕ) (i : Insn) (s : Registers) (r : List ℕ) (skip : ℕ) (t : Registers) (next : ℕ)
    → slice_get p pc ≡ Some i → step r i s ≡ Goes skip t → next ≡ pc + 1 + skip → given p pc s r ≡ given p next t r
given_goes p pc i s r skip t next found e n =
    ap (option_map (λ (end : ℕ × ℕ). end.0)) (ending_goes p pc i s r skip t next found e n) ∙ after_word (ending p next t r)

-- an instruction that ends the run gives its verdict
pub given_ends : (p : List Insn) (pc : ℕ) (i : Insn) (s : Registers) (r : List ℕ) (word : ℕ)
    → slice_get p pc ≡ Some i → step r i s ≡ Ends word → given p pc s r ≡ Some word
given_ends p pc i s r word found e = ap (option_map (λ (end : ℕ × ℕ). end.0)) (ending_ends p pc i s r word found e)

-- the instructions from a position on are a program of their own
pub given_drop : (p : List Insn) (pc : ℕ) (s : Registers) (r : List ℕ) → given p pc s r ≡ given (drop pc p) 0 s r
given_drop [] zero s r = refl
given_drop [] (suc pc) s r = refl
given_drop (i ∷ p) zero s r = refl
given_drop (i ∷ p) (suc pc) s r = given_drop p pc s r

-- a load does not look at what A held
loads_anew : (p : List Insn) (a : ℕ) (r : List ℕ) (o : Option ℕ)
    → follow (loaded (holding a) o) (λ skip t. ending p skip t r) ≡ follow (loaded start o) (λ skip t. ending p skip t r)
loads_anew p a r None = refl
loads_anew p a r (Some w) = refl

load_does : (op : Option Operation) → op ≡ Some LoadWord → (r : List ℕ) (i : Insn) (s : Registers) → perform_if op r i s ≡ loaded s (word_at r i.k)
load_does op e r i s = ap (λ o. perform_if o r i s) e

pub given_anew : (p : List Insn) (a : ℕ) (r : List ℕ) → BeginsWithLoad p → given p 0 (holding a) r ≡ given p 0 start r
given_anew [] a r h = absurd h
given_anew (i ∷ p) a r h =
    let one = load_does (operation_of i.code) h r i (holding a) in
    let other = load_does (operation_of i.code) h r i start in
    let first : ending (i ∷ p) 0 (holding a) r ≡ ending (i ∷ p) 0 start r =
    ap (λ done. follow done (λ skip t. ending p skip t r)) one
    ∙ (loads_anew p a r (word_at r i.k) ∙ ap (λ done. follow done (λ skip t. ending p skip t r)) (sym other)) in
    ap (option_map (λ (end : ℕ × ℕ). end.0)) first

-- a record of a part is one of the whole
pub in_whole : (part whole : Region) (r : List ℕ) → IsPartOf part whole → IsIn part r → IsIn whole r
in_whole part whole r part_of h = record {
  is_record = h.is_record;
  number = (omega (arith, part_of.numbers, h.number), omega (arith, part_of.numbers, h.number));
  token = (omega (arith, part_of.tokens, h.token), omega (arith, part_of.tokens, h.token));
}

-- a part of a part is one of the whole
pub part_of_part : (a b c : Region) → IsPartOf a b → IsPartOf b c → IsPartOf a c
part_of_part a b c h g = record {
  numbers = record {
    first = omega (arith, h.numbers, g.numbers);
    some = h.numbers.some;
    last = omega (arith, h.numbers, g.numbers);
  };
  tokens = record {
    first = omega (arith, h.tokens, g.tokens);
    some = h.tokens.some;
    last = omega (arith, h.tokens, g.tokens);
  };
}

-- past one instruction more
skipped : (b0 b1 b2 b3 b4 b5 b6 b7 : ℕ) (rest : List ℕ) (i : ℕ) → drop (8 * suc i) (b0 ∷ b1 ∷ b2 ∷ b3 ∷ b4 ∷ b5 ∷ b6 ∷ b7 ∷ rest) ≡ drop (8 * i) rest
skipped b0 b1 b2 b3 b4 b5 b6 b7 rest i =
    let e : 8 * suc i ≡ suc (suc (suc (suc (suc (suc (suc (suc (8 * i)))))))) = omega arith in
    rw e refl

-- the bytes behind some instructions spell those behind them
pub insns_of-drop : (bytes : List ℕ) (n : ℕ) → n < length (insns_of bytes) → insns_of (drop (8 * n) bytes) ≡ drop n (insns_of bytes)
insns_of-drop (b0 ∷ b1 ∷ b2 ∷ b3 ∷ b4 ∷ b5 ∷ b6 ∷ b7 ∷ rest) zero h = refl
insns_of-drop (b0 ∷ b1 ∷ b2 ∷ b3 ∷ b4 ∷ b5 ∷ b6 ∷ b7 ∷ rest) (suc n) h =
    rw (skipped b0 b1 b2 b3 b4 b5 b6 b7 rest n) (insns_of-drop rest n (omega arith))
insns_of-drop bytes n h = absurd (omega arith)

-- the instruction at a position is a load
pub begins : (p : List Insn) (n : ℕ) (i : Insn) → slice_get p n ≡ Some i → operation_of i.code ≡ Some LoadWord → BeginsWithLoad (drop n p)
begins [] n i found e = cc
begins (x ∷ p) zero i found e = let same : x ≡ i = cc in ap (λ y. operation_of y.code) same ∙ e
begins (x ∷ p) (suc n) i found e = begins p n i found e

-- a number that is one of fewer is one of all
pub fewer_tokens : (n : ℕ) (part whole : Numbers) → IsPart part whole → IsWithin n part → IsWithin n whole
fewer_tokens n part whole part_of h = (omega (arith, part_of, h), omega (arith, part_of, h))

-- a part of a part of numbers
pub part_of_numbers : (a b c : Numbers) → IsPart a b → IsPart b c → IsPart a c
part_of_numbers a b c h g = record { first = omega (arith, h, g); some = h.some; last = omega (arith, h, g) }
