-- The program that is made of another tells calls of machines from all others.
use Rattle.std.proofs.Common.{◌≡◌, ◌↔◌, ℕ, zero, suc, ◌+◌, ◌-◌, ◌≤◌, ◌<◌, Bool, true, false, ◌⊎◌, inl, inr, List, [], ◌∷◌, ◌++◌, length, refl, ap, sym, ◌∙◌, arith}
use Rattle.std.specs.Prelude.{◌==◌, ◌&&◌, ◌||◌, not, nat_le, nat_lt, if◌then◌else◌, Option, Some, Result, Ok, Err, IfOk}
use Rattle.std.specs.List.{Any, list_any}
use Rattle.std.specs.Option.{option_map}
use Rattle.std.proofs.lemmas.Bool.{eqb-true}
use Rattle.std.specs.Bool.{Decides}
use Rattle.std.proofs.lemmas.Bool.Decides.{Decides-and, Decides-eqb, Decides-like, Decides-ltb, Decides-not, nat_tests, not_from_Decides}
use Rattle.std.proofs.lemmas.Bool.{cases_Bool}
use Rattle.std.proofs.lemmas.List.{length-append}
use Rattle.call_record.specs.Verdict.{allow, kill_thread}
use Rattle.call_record.specs.Words.{IsRecord, word}
use Rattle.machines.specs.declared.arch.Arch.{Arch}
use Rattle.machines.specs.declared.numbers.Numbers.{Numbers}
use Rattle.machines.specs.Arch.{token_of}
use Rattle.machines.specs.Numbers.{HasCall, IsWithin, own_numbers}
use Rattle.bpf_insn.specs.declared.instruction.Insn.{Insn}
use Rattle.bpf_insn.specs.declared.code.Operand.TheVariants.{K}
use Rattle.bpf_insn.specs.declared.code.Operation.TheVariants.{Branch, Jump, LoadWord, SetA}
use Rattle.bpf_insn.specs.declared.code.Test.TheVariants.{AtLeast, Equal, Greater}
use Rattle.bpf_insn.specs.Machine.{Goes, Registers, start, step, verdict_of}
use Rattle.kernel_check.specs.Accepted.{IsAccepted}
use Rattle.kernel_check.proofs.RunLaws.{runs as gives_one}
use Rattle.profile.proofs.MachineLaws.{Decides-any}
use Rattle.flatten.specs.inner.Turns.{ArePlain, given, insn}
use Rattle.flatten.proofs.RunLaws.{behind, from_step, goes_on, more, runs}
use Rattle.recover_others.specs.Guarded.{IsCallOf, IsGuarded}
use Rattle.recover_others.specs.inner.Guard.{base, before, empty_a, front, fronts, guard, turn, turned}
use Rattle.recover_others.proofs.TurnLaws.{turns}

-- the registers where only A was written
abbrev holding : ℕ → Registers
holding a = record start { a = a }

-- an instruction that goes on leaves the verdict to those behind it
one : (i : Insn) (q : List Insn) (s t : Registers) (r : List ℕ) (skip : ℕ) → step r i s ≡ Goes skip t → given (i ∷ q) 0 s r ≡ given q skip t r
one i q s t r skip e = ap (λ done. from_step done q r) e ∙ goes_on q skip t r

-- ---- the instructions in front

-- the record's token is this, and its number is one of these
abbrev hits : ℕ → ℕ → ℕ → Numbers → Bool
hits token nr of numbers = token == of && (nat_le numbers.first nr && not (nat_lt numbers.last nr))

-- where a program goes on at a position with one verdict, and at its begin with another, whatever A holds
pub record Parts (r : List ℕ) (tail : ℕ) (p : List Insn) (own first : Option ℕ) : Type 0 where
  pub size : tail ≤ length p
  pub at_own : (a : ℕ) → given p (length p - tail) (holding a) r ≡ own
  pub at_first : (a : ℕ) → given p 0 (holding a) r ≡ first

module _ (nr token : ℕ) (others : List ℕ) (of : ℕ) (numbers : Numbers) (tail : ℕ) (p : List Insn) (own first : Option ℕ) where
  abbrev r : List ℕ
  r = nr ∷ token ∷ others

  abbrev skip : ℕ
  skip = length p - tail

  module _ (parts : Parts r tail p own first) where
    abbrev wanted : Bool → Option ℕ
    wanted b = if b then own else first

    by_last : (b : Bool) → nat_lt numbers.last nr ≡ b
        → given (insn 0x25 1 0 numbers.last ∷ insn 0x05 0 0 skip ∷ p) 0 (holding nr) r ≡ wanted (not b)
    by_last true e =
        let i = insn 0x25 1 0 numbers.last in
        let goes : step r i (holding nr) ≡ Goes 1 (holding nr) =
        runs (Branch Greater K) i (holding nr) r refl ∙ ap (λ b. Goes (if b then 1 else 0) (holding nr)) e in
        one i (insn 0x05 0 0 skip ∷ p) (holding nr) (holding nr) r 1 goes ∙ parts.at_first nr
    by_last false e =
        let i = insn 0x25 1 0 numbers.last in
        let jump = insn 0x05 0 0 skip in
        let goes : step r i (holding nr) ≡ Goes 0 (holding nr) =
        runs (Branch Greater K) i (holding nr) r refl ∙ ap (λ b. Goes (if b then 1 else 0) (holding nr)) e in
        one i (jump ∷ p) (holding nr) (holding nr) r 0 goes
        ∙ one jump p (holding nr) (holding nr) r skip (runs Jump jump (holding nr) r refl)
        ∙ parts.at_own nr

    by_first : (b : Bool) → nat_le numbers.first nr ≡ b
        → given (insn 0x35 0 2 numbers.first ∷ insn 0x25 1 0 numbers.last ∷ insn 0x05 0 0 skip ∷ p) 0 (holding nr) r
        ≡ wanted (b && not (nat_lt numbers.last nr))
    by_first true e =
        let i = insn 0x35 0 2 numbers.first in
        let q = insn 0x25 1 0 numbers.last ∷ insn 0x05 0 0 skip ∷ p in
        let goes : step r i (holding nr) ≡ Goes 0 (holding nr) =
        runs (Branch AtLeast K) i (holding nr) r refl ∙ ap (λ b. Goes (if b then 0 else 2) (holding nr)) e in
        one i q (holding nr) (holding nr) r 0 goes ∙ by_last (nat_lt numbers.last nr) refl
    by_first false e =
        let i = insn 0x35 0 2 numbers.first in
        let q = insn 0x25 1 0 numbers.last ∷ insn 0x05 0 0 skip ∷ p in
        let goes : step r i (holding nr) ≡ Goes 2 (holding nr) =
        runs (Branch AtLeast K) i (holding nr) r refl ∙ ap (λ b. Goes (if b then 0 else 2) (holding nr)) e in
        one i q (holding nr) (holding nr) r 2 goes ∙ parts.at_first nr

    by_token : (b : Bool) → (token == of) ≡ b
        → given (insn 0x15 0 4 of ∷ insn 0x20 0 0 0 ∷ insn 0x35 0 2 numbers.first ∷ insn 0x25 1 0 numbers.last ∷ insn 0x05 0 0 skip ∷ p) 0
        (holding token) r ≡ wanted (b && (nat_le numbers.first nr && not (nat_lt numbers.last nr)))
    by_token true e =
        let i = insn 0x15 0 4 of in
        let load = insn 0x20 0 0 0 in
        let q = insn 0x35 0 2 numbers.first ∷ insn 0x25 1 0 numbers.last ∷ insn 0x05 0 0 skip ∷ p in
        let goes : step r i (holding token) ≡ Goes 0 (holding token) =
        runs (Branch Equal K) i (holding token) r refl ∙ ap (λ b. Goes (if b then 0 else 4) (holding token)) e in
        one i (load ∷ q) (holding token) (holding token) r 0 goes
        ∙ one load q (holding token) (holding nr) r 0 (runs LoadWord load (holding token) r refl)
        ∙ by_first (nat_le numbers.first nr) refl
    by_token false e =
        let i = insn 0x15 0 4 of in
        let load = insn 0x20 0 0 0 in
        let q = insn 0x35 0 2 numbers.first ∷ insn 0x25 1 0 numbers.last ∷ insn 0x05 0 0 skip ∷ p in
        let goes : step r i (holding token) ≡ Goes 4 (holding token) =
        runs (Branch Equal K) i (holding token) r refl ∙ ap (λ b. Goes (if b then 0 else 4) (holding token)) e in
        one i (load ∷ q) (holding token) (holding token) r 4 goes ∙ parts.at_first token

    first_of : (a : ℕ) → given (front of numbers skip ++ p) 0 (holding a) r ≡ wanted (hits token nr of numbers)
    first_of a =
        let load = insn 0x20 0 0 4 in
        let q = insn 0x15 0 4 of ∷ insn 0x20 0 0 0 ∷ insn 0x35 0 2 numbers.first ∷ insn 0x25 1 0 numbers.last ∷ insn 0x05 0 0 skip ∷ p in
        one load q (holding a) (holding token) r 0 (runs LoadWord load (holding a) r refl) ∙ by_token (token == of) refl

    own_at : (a : ℕ) → given (front of numbers skip ++ p) (length (front of numbers skip ++ p) - tail) (holding a) r ≡ own
    own_at a =
        let place : length (front of numbers skip ++ p) - tail ≡ 6 + skip = omega (arith, parts.size) in
        behind (front of numbers skip) p (length (front of numbers skip ++ p) - tail) skip (holding a) r place ∙ parts.at_own a

    pub parts_before : Parts r tail (before of numbers tail p) own (wanted (hits token nr of numbers))
    parts_before = record {
      size = omega (arith, parts.size);
      at_own = own_at;
      at_first = first_of;
    }

-- ---- all of them

module _ (nr token : ℕ) (others : List ℕ) (tail : ℕ) (own first : Option ℕ) where
  abbrev rec : List ℕ
  rec = nr ∷ token ∷ others

  abbrev chosen : Bool → Option ℕ
  chosen b = if b then own else first

  either : (a b : Bool) → (if a then own else chosen b) ≡ chosen (a || b)
  either true b = refl
  either false b = refl

  pub parts_fronts : (of : ℕ) (ns : List Numbers) (p : List Insn) (b : Bool) → Parts rec tail p own (chosen b)
      → Parts rec tail (fronts of ns tail p) own (chosen (list_any (hits token nr of) ns || b))
  parts_fronts of [] p b parts = parts
  parts_fronts of (n ∷ ns) p b parts =
      let rest = parts_fronts of ns p b parts in
      let here = parts_before nr token others of n tail (fronts of ns tail p) own (chosen (list_any (hits token nr of) ns || b)) rest in
      subst_first (before of n tail (fronts of ns tail p)) (hits token nr of n) (list_any (hits token nr of) ns) b here where
        three : (a c b : Bool) → (if a then own else chosen (c || b)) ≡ chosen ((a || c) || b)
        three true c b = refl
        three false c b = refl

        subst_first : (q : List Insn) (a c b : Bool) → Parts rec tail q own (if a then own else chosen (c || b))
            → Parts rec tail q own (chosen ((a || c) || b))
        subst_first q a c b h = record { size = h.size; at_own = h.at_own; at_first = λ x. h.at_first x ∙ three a c b }

  abbrev of_machine : Arch → Bool
  of_machine m = list_any (hits token nr (token_of m)) (own_numbers m)

  pub parts_guard : (ms : List Arch) (p : List Insn) → Parts rec tail p own first
      → Parts rec tail (guard ms tail p) own (chosen (list_any of_machine ms))
  parts_guard [] p parts = parts
  parts_guard (m ∷ ms) p parts =
      parts_fronts (token_of m) (own_numbers m) (guard ms tail p) (list_any of_machine ms) (parts_guard ms p parts)

-- ---- which calls they choose

Decides-leb : (a b : ℕ) → Decides (nat_le a b) (a ≤ b)
Decides-leb a b = (λ h. grind (arith, nat_tests), λ h. grind (arith, nat_tests))

ltb_not : (a b : ℕ) → ¬ (a < b) → b ≤ a
ltb_not a b h = grind (arith, h)

not_both : (a b : ℕ) → b ≤ a → a < b → ⊥
not_both a b h more = omega (arith, h, more)

module _ (nr token : ℕ) where
  Decides-hits : (of : ℕ) (n : Numbers) → Decides (hits token nr of n) ((of ≡ token) × IsWithin nr n)
  Decides-hits of n =
      Decides-like (hits token nr of n)
      (λ h. (sym h.0, (h.1.0, ltb_not n.last nr h.1.1)))
      (λ h. (sym h.0, (h.1.0, λ more. not_both n.last nr h.1.1 more)))
      (Decides-and _ _ (Decides-eqb token of)
      (Decides-and _ _ (Decides-leb n.first nr) (Decides-not (nat_lt n.last nr) (Decides-ltb n.last nr))))

  Decides-machine : (m : Arch) → Decides (list_any (hits token nr (token_of m)) (own_numbers m)) (HasCall token nr m)
  Decides-machine m =
      Decides-like (list_any (hits token nr (token_of m)) (own_numbers m))
      (λ h. (h.4.0, (h.0, h.1, h.2, h.3, h.4.1)))
      (λ h. (h.1.0, h.1.1, h.1.2, h.1.3, (h.0, h.1.4)))
      (Decides-any (hits token nr (token_of m)) (λ n. (token_of m ≡ token) × IsWithin nr n) (Decides-hits (token_of m)) (own_numbers m))

  Decides-machines : (ms : List Arch)
      → Decides (list_any (λ m. list_any (hits token nr (token_of m)) (own_numbers m)) ms) (Any (HasCall token nr) ms)
  Decides-machines ms =
      Decides-any (λ m. list_any (hits token nr (token_of m)) (own_numbers m)) (HasCall token nr) Decides-machine ms

-- ---- the program, and the one that is made of it

turned_allow : (word : ℕ) → (turn word ≡ kill_thread) ↔ (word ≡ allow)
turned_allow word = (λ e. back (word == allow) refl e, λ e. rw e refl) where
  back : (b : Bool) → (word == allow) ≡ b → (if b then kill_thread else allow) ≡ kill_thread → word ≡ allow
  back true e h = eqb-true word allow e
  back false e h = absurd (cc)

module _ (p : List Insn) (plain : ArePlain p) (r : List ℕ) (w : ℕ) (found : given p 0 start r ≡ Some w) where
  empties : (q : List Insn) (a : ℕ) → given (empty_a ∷ q) 0 (holding a) r ≡ given q 0 start r
  empties q a = one empty_a q (holding a) start r 0 (runs SetA empty_a (holding a) r refl)

  own_of_base : (a : ℕ) → given (base p) (length (base p) - (length p + 1)) (holding a) r ≡ Some w
  own_of_base a =
      let front = empty_a ∷ turned p in
      let last = empty_a ∷ p in
      let place : length (base p) - (length p + 1) ≡ length front + 0 = omega (arith, length-append front last) in
      behind front last (length (base p) - (length p + 1)) 0 (holding a) r place ∙ empties p a ∙ found

  first_of_base : (a : ℕ) → given (base p) 0 (holding a) r ≡ Some (turn w)
  first_of_base a =
      empties (turned p ++ (empty_a ∷ p)) a
      ∙ more (turned p) (empty_a ∷ p) 0 start r (turn w) (turns r p plain 0 start ∙ ap (option_map turn) found)

  parts_base : Parts r (length p + 1) (base p) (Some w) (Some (turn w))
  parts_base = record {
    size = omega (arith, length-append (empty_a ∷ turned p) (empty_a ∷ p));
    at_own = own_of_base;
    at_first = first_of_base;
  }

-- the verdicts of both, on a record of two words at least
module _ (machines : List Arch) (p : List Insn) (plain : ArePlain p) (nr token : ℕ) (others : List ℕ) (w : ℕ)
    (found : given p 0 start (nr ∷ token ∷ others) ≡ Some w) where
  abbrev made : List Insn
  made = guard machines (length p + 1) (base p)

  abbrev is_own : Bool
  is_own = list_any (λ m. list_any (hits token nr (token_of m)) (own_numbers m)) machines

  verdict_is : given made 0 start (nr ∷ token ∷ others) ≡ (if is_own then Some w else Some (turn w))
  verdict_is =
      let parts = parts_guard nr token others (length p + 1) (Some w) (Some (turn w)) machines (base p)
      (parts_base p plain (nr ∷ token ∷ others) w found) in
      parts.at_first 0

  own_verdict : Any (HasCall token nr) machines → given made 0 start (nr ∷ token ∷ others) ≡ given p 0 start (nr ∷ token ∷ others)
  own_verdict is =
      let b : is_own ≡ true = (Decides-machines nr token machines).1 is in
      verdict_is ∙ ap (λ b. if b then Some w else Some (turn w)) b ∙ sym found

  other_verdict : ¬ Any (HasCall token nr) machines
      → (given made 0 start (nr ∷ token ∷ others) ≡ Some kill_thread) ↔ (given p 0 start (nr ∷ token ∷ others) ≡ Some allow)
  other_verdict none = elim (cases_Bool is_own) [
    | inl is ↦ absurd (none ((Decides-machines nr token machines).0 is))
    | inr alien ↦
        let gives : given made 0 start (nr ∷ token ∷ others) ≡ Some (turn w) =
        verdict_is ∙ ap (λ b. if b then Some w else Some (turn w)) alien in (
          λ killed. found ∙ ap Some ((turned_allow w).0 (some_of (turn w) kill_thread (sym gives ∙ killed))),
          λ allowed. gives ∙ ap Some ((turned_allow w).1 (some_of w allow (sym found ∙ allowed))),
        )
  ] where
    some_of : (a b : ℕ) → Some a ≡ Some b → a ≡ b
    some_of a b e = cc

module _ (machines : List Arch) (p made : List Insn) (plain : ArePlain p) (accepted : IsAccepted p)
    (is : made ≡ guard machines (length p + 1) (base p)) where
  word_of : (r : List ℕ) → IsRecord r → (w : ℕ) × (given p 0 start r ≡ Some w)
  word_of r rec =
      let word = gives_one p r accepted rec.length_is in
      (word.0, ap (λ (o : Option (ℕ × ℕ)). option_map (λ (end : ℕ × ℕ). end.0) o) word.2)

  own_of : (r : List ℕ) → IsRecord r → IsCallOf machines r → verdict_of made r ≡ verdict_of p r
  own_of [] rec call = let size = rec.length_is in absurd (omega (arith, size))
  own_of (nr ∷ []) rec call = let size = rec.length_is in absurd (omega (arith, size))
  own_of (nr ∷ token ∷ others) rec call =
      let word = word_of (nr ∷ token ∷ others) rec in
      ap (λ q. verdict_of q (nr ∷ token ∷ others)) is ∙ own_verdict machines p plain nr token others word.0 word.1 call

  others_of : (r : List ℕ) → IsRecord r → ¬ IsCallOf machines r
      → (verdict_of made r ≡ Some kill_thread) ↔ (verdict_of p r ≡ Some allow)
  others_of [] rec none = let size = rec.length_is in absurd (omega (arith, size))
  others_of (nr ∷ []) rec none = let size = rec.length_is in absurd (omega (arith, size))
  others_of (nr ∷ token ∷ others) rec none =
      let word = word_of (nr ∷ token ∷ others) rec in
      let same = ap (λ q. verdict_of q (nr ∷ token ∷ others)) is in
      let h = other_verdict machines p plain nr token others word.0 word.1 none in
      (λ killed. h.0 (sym same ∙ killed), λ allowed. same ∙ h.1 allowed)

  pub guarded_is : IsGuarded machines p made
  guarded_is = record { own = own_of; others = others_of }

pub if_ok : {A E : Type 0} → (result : Result A E) (P Q : A → Type 0) → ((a : A) → P a → Q a) → IfOk result P → IfOk result Q
if_ok (Ok a) P Q f h = f a h
if_ok (Err e) P Q f h = tt
