-- What is read after a mnemonic is what is written there.
use Rattle.std.proofs.Common.{◌≡◌, ◌≢◌, ℕ, ◌<◌, Bool, true, false, cond, List, [], ◌∷◌, ◌++◌, refl, ap, sym, ◌∙◌, arith, lit<}
use Rattle.std.specs.Prelude.{◌==◌, Option, Some, None, option_and_then, codes}
use Rattle.std.specs.Option.{option_map}
use Rattle.std.specs.List.{list_all}
use Rattle.std.specs.Char.{is_ascii_digit}
use Rattle.std.specs.Str.{bytes_eq}
use Rattle.std.proofs.lemmas.Bool.{and_parts, ne_eqb}
use Rattle.std.proofs.lemmas.Bool.Decides.{nat_tests}
use Rattle.std.proofs.lemmas.Option.{cond_some}
use Rattle.std.proofs.lemmas.Slice.Eq.{bytes_eq-Decides}
use Rattle.bpf_asm.specs.declared.arguments.Part.{Part}
use Rattle.bpf_asm.specs.declared.arguments.Part.TheVariants as parts
use Rattle.bpf_asm.specs.declared.arguments.Arguments.{Arguments}
use Rattle.bpf_asm.specs.declared.arguments.Arguments.TheVariants.{One, Three, Four}
use Rattle.texts.specs.Digits.{are_digits, is_hexadecimal_digit}
use Rattle.texts.specs.Numbers.{number_of}
use Rattle.texts.specs.Splits.{behind, split_at}
use Rattle.texts.proofs.Options.{bind_some, map_some}
use Rattle.texts.proofs.Splits.{Lacks, behind_sound, lacks_append, split_at_first, split_at_none, split_at_sound}
use Rattle.bpf_asm.specs.Forms.{Address, Scratch, Constant, Decimal, Hexadecimal}
use Rattle.bpf_asm.specs.inner.Written.{IsWritten, OfA, OfNumber, OfX, Written, part_of, written_text}
use Rattle.bpf_asm.specs.inner.Reading.{ahead_of, arguments_at, bracketed_at, decimal_at, hexadecimal_at, last_parts}
use Rattle.bpf_asm.specs.inner.Reading.{marked_part, bare_part, part_at, parts_of}
use Rattle.bpf_asm.proofs.Ends.{ahead_of_sound}
use Rattle.bpf_asm.proofs.Parts.{bracketed_at-closed, part_at-address, part_at-number, part_at-scratch}

-- One piece.

decimal_at-digits : (ds : List ℕ) → are_digits is_ascii_digit ds ≡ true → decimal_at ds ≡ Some (number_of 10 ds)
unfolding decimal_at
decimal_at-digits ds d = rw d refl

hexadecimal_at-digits : (ds : List ℕ) → are_digits is_hexadecimal_digit ds ≡ true → hexadecimal_at (48 ∷ 120 ∷ ds) ≡ Some (number_of 16 ds)
unfolding hexadecimal_at
hexadecimal_at-digits ds d = rw d refl

is_not : (c d : ℕ) → is_ascii_digit c ≡ false → is_ascii_digit d ≡ true → d ≢ c
is_not c d h k e = let same : is_ascii_digit d ≡ is_ascii_digit c = ap is_ascii_digit e in cc

-- a decimal number does not begin with `0x`
hexadecimal_at-decimal : (ds : List ℕ) → are_digits is_ascii_digit ds ≡ true → hexadecimal_at ds ≡ None
unfolding hexadecimal_at
hexadecimal_at-decimal [] d = refl
hexadecimal_at-decimal (a ∷ []) d = by_test (a == 48) where
  by_test : (t : Bool)
      → option_and_then (λ ds. cond (are_digits is_hexadecimal_digit ds) (Some (number_of 16 ds)) None) (cond t (behind (120 ∷ []) []) None)
      ≡ None
  by_test true = refl
  by_test false = refl
hexadecimal_at-decimal (a ∷ b ∷ ds) d =
    let digits = and_parts (is_ascii_digit a) (list_all is_ascii_digit (b ∷ ds)) d in
    let second = and_parts (is_ascii_digit b) (list_all is_ascii_digit ds) digits.1 in
    let other : (b == 120) ≡ false = ne_eqb b 120 (is_not 120 b refl second.0) in
    rw other (by_test (a == 48))
  where
    by_test : (t : Bool)
        → option_and_then (λ xs. cond (are_digits is_hexadecimal_digit xs) (Some (number_of 16 xs)) None) (cond t None None) ≡ None
    by_test true = refl
    by_test false = refl

part_at-decimal : (ds : List ℕ) → are_digits is_ascii_digit ds ≡ true → part_at ds ≡ Some (parts.Decimal (number_of 10 ds))
part_at-decimal [] d = absurd (cc)
part_at-decimal (a ∷ ds) d =
    let first = and_parts (is_ascii_digit a) (list_all is_ascii_digit ds) d in
    let not_a : (a == 97) ≡ false = ne_eqb a 97 (is_not 97 a refl first.0) in
    let not_x : (a == 120) ≡ false = ne_eqb a 120 (is_not 120 a refl first.0) in
    let not_m : (a == 77) ≡ false = ne_eqb a 77 (is_not 77 a refl first.0) in
    part_at-number (a ∷ ds) (rw not_a refl) (rw not_x refl) (λ rest e. is_not 35 a refl first.0 cc)
    (λ rest e. is_not 91 a refl first.0 cc) (rw not_m refl)
    ∙ rw (hexadecimal_at-decimal (a ∷ ds) d, decimal_at-digits (a ∷ ds) d) refl

-- what is written is read
pub part_at-written_text : (p : Written) → IsWritten p → part_at (written_text p) ≡ Some (part_of p)
unfolding part_at
part_at-written_text OfA h = refl
part_at-written_text OfX h = refl
part_at-written_text (OfNumber Address ds) h =
    part_at-address (91 ∷ (ds ++ 93 ∷ [])) (ds ++ 93 ∷ []) refl
    ∙ ap (option_map parts.Address) (bracketed_at-closed (ds ++ 93 ∷ []) ds refl ∙ decimal_at-digits ds h)
part_at-written_text (OfNumber Scratch ds) h =
    part_at-scratch (77 ∷ 91 ∷ (ds ++ 93 ∷ [])) (ds ++ 93 ∷ []) refl
    ∙ ap (option_map parts.Scratch) (bracketed_at-closed (ds ++ 93 ∷ []) ds refl ∙ decimal_at-digits ds h)
part_at-written_text (OfNumber Constant ds) h = ap (option_map parts.Constant) (hexadecimal_at-digits ds h)
part_at-written_text (OfNumber Decimal ds) h = part_at-decimal ds h
part_at-written_text (OfNumber Hexadecimal ds) h = ap (λ o. bare_part o (48 ∷ 120 ∷ ds)) (hexadecimal_at-digits ds h)

decimal_at_sound : (text : List ℕ) (n : Option ℕ) → decimal_at text ≡ Some n
    → (are_digits is_ascii_digit text ≡ true) × (number_of 10 text ≡ n)
unfolding decimal_at
decimal_at_sound text n h = cond_some (are_digits is_ascii_digit text) (number_of 10 text) n h

hexadecimal_at_sound : (text : List ℕ) (n : Option ℕ) → hexadecimal_at text ≡ Some n
    → (ds : List ℕ) × (text ≡ 48 ∷ 120 ∷ ds) × (are_digits is_hexadecimal_digit ds ≡ true) × (number_of 16 ds ≡ n)
unfolding hexadecimal_at
hexadecimal_at_sound text n h =
    let found =
    bind_some (behind (48 ∷ 120 ∷ []) text) (λ ds. cond (are_digits is_hexadecimal_digit ds) (Some (number_of 16 ds)) None) n h in
    let digits = cond_some (are_digits is_hexadecimal_digit found.0) (number_of 16 found.0) n found.2 in
    (found.0, behind_sound (48 ∷ 120 ∷ []) text found.0 found.1, digits.0, digits.1)

bracketed_at_sound : (text : List ℕ) (n : Option ℕ) → bracketed_at text ≡ Some n
    → (ds : List ℕ) × (text ≡ ds ++ 93 ∷ []) × (are_digits is_ascii_digit ds ≡ true) × (number_of 10 ds ≡ n)
unfolding bracketed_at
bracketed_at_sound text n h =
    let ended = bind_some (ahead_of 93 text) decimal_at n h in
    let read = decimal_at_sound ended.0 n ended.2 in
    (ended.0, ahead_of_sound 93 text ended.0 ended.1, read.0, read.1)

-- a piece that a text is, and that is read as this part
abbrev pub Shows : List ℕ → Part → Type 0
Shows text x = (p : Written) × IsWritten p × (text ≡ written_text p) × (part_of p ≡ x)

bare_part_sound : (text : List ℕ) (x : Part) (o : Option (Option ℕ)) → hexadecimal_at text ≡ o → bare_part o text ≡ Some x → Shows text x
bare_part_sound text x (Some n) found h =
    let read = hexadecimal_at_sound text n found in
    let made : parts.Hexadecimal n ≡ x = cc in
    (OfNumber Hexadecimal read.0, read.2, read.1, ap parts.Hexadecimal read.3 ∙ made)
bare_part_sound text x None found h =
    let taken = map_some (decimal_at text) parts.Decimal x h in
    let read = decimal_at_sound text taken.0 taken.1 in
    (OfNumber Decimal text, read.0, refl, ap parts.Decimal read.1 ∙ taken.2)

marked_part_sound : (text : List ℕ) (x : Part) (mark bracket word : Option (List ℕ)) → behind (35 ∷ []) text ≡ mark
    → behind (91 ∷ []) text ≡ bracket
    → behind (77 ∷ 91 ∷ []) text ≡ word → marked_part mark bracket word text ≡ Some x → Shows text x
marked_part_sound text x (Some rest) bracket word m b s h =
    let taken = map_some (hexadecimal_at rest) parts.Constant x h in
    let read = hexadecimal_at_sound rest taken.0 taken.1 in
    (OfNumber Constant read.0, read.2, behind_sound (35 ∷ []) text rest m ∙ ap (λ t. 35 ∷ t) read.1, ap parts.Constant read.3 ∙ taken.2)
marked_part_sound text x None (Some rest) word m b s h =
    let taken = map_some (bracketed_at rest) parts.Address x h in
    let read = bracketed_at_sound rest taken.0 taken.1 in
    (OfNumber Address read.0, read.2, behind_sound (91 ∷ []) text rest b ∙ ap (λ t. 91 ∷ t) read.1, ap parts.Address read.3 ∙ taken.2)
marked_part_sound text x None None (Some rest) m b s h =
    let taken = map_some (bracketed_at rest) parts.Scratch x h in
    let read = bracketed_at_sound rest taken.0 taken.1 in
    let whole = behind_sound (77 ∷ 91 ∷ []) text rest s ∙ ap (λ t. 77 ∷ 91 ∷ t) read.1 in
    (OfNumber Scratch read.0, read.2, whole, ap parts.Scratch read.3 ∙ taken.2)
marked_part_sound text x None None None m b s h = bare_part_sound text x (hexadecimal_at text) refl h

-- what is read is written so
pub part_at_sound : (text : List ℕ) (x : Part) → part_at text ≡ Some x → Shows text x
unfolding part_at
part_at_sound text x h = by_a (bytes_eq text (codes "a")) refl h where
  marked : Option Part
  marked = marked_part (behind (35 ∷ []) text) (behind (91 ∷ []) text) (behind (77 ∷ 91 ∷ []) text) text

  by_x : (b : Bool) → bytes_eq text (codes "x") ≡ b
      → cond b (Some parts.RegisterX) marked ≡ Some x → Shows text x
  by_x true e g = (OfX, tt, (bytes_eq-Decides text (codes "x")).0 e, cc)
  by_x false e g = marked_part_sound text x (behind (35 ∷ []) text) (behind (91 ∷ []) text) (behind (77 ∷ 91 ∷ []) text) refl refl refl g

  by_a : (b : Bool) → bytes_eq text (codes "a") ≡ b
      → cond b (Some parts.RegisterA) (cond (bytes_eq text (codes "x")) (Some parts.RegisterX) marked) ≡ Some x → Shows text x
  by_a true e g = (OfA, tt, (bytes_eq-Decides text (codes "a")).0 e, cc)
  by_a false e g = by_x (bytes_eq text (codes "x")) refl g

-- A piece has no comma and no line feed.

pub lacks_digits : (is_digit : ℕ → Bool) (c : ℕ) → is_digit c ≡ false → (ds : List ℕ) → list_all is_digit ds ≡ true → Lacks c ds
lacks_digits is_digit c other [] h = tt
lacks_digits is_digit c other (d ∷ ds) h =
    let digits = and_parts (is_digit d) (list_all is_digit ds) h in
    ((λ e. different d digits.0 e), lacks_digits is_digit c other ds digits.1)
  where
    different : (x : ℕ) → is_digit x ≡ true → x ≡ c → ⊥
    different x t e = let same : is_digit x ≡ is_digit c = ap is_digit e in cc

lacks_some : (is_digit : ℕ → Bool) (c : ℕ) → is_digit c ≡ false → (ds : List ℕ) → are_digits is_digit ds ≡ true → Lacks c ds
lacks_some is_digit c other [] h = tt
lacks_some is_digit c other (d ∷ ds) h = lacks_digits is_digit c other (d ∷ ds) h

pub lacks-written_text : (c : ℕ) → c < 48 → c ≢ 35 → (p : Written) → IsWritten p → Lacks c (written_text p)
lacks-written_text c low other OfA h = (omega arith, tt)
lacks-written_text c low other OfX h = (omega arith, tt)
lacks-written_text c low other (OfNumber Address ds) h =
    (omega arith, lacks_append c ds (93 ∷ []) (lacks_some is_ascii_digit c (no_decimal c low) ds h) (omega arith, tt))
  where
    no_decimal : (x : ℕ) → x < 48 → is_ascii_digit x ≡ false
    no_decimal x l = grind (arith, nat_tests)
lacks-written_text c low other (OfNumber Scratch ds) h =
    (omega arith, (omega arith, lacks_append c ds (93 ∷ []) (lacks_some is_ascii_digit c (no_decimal c low) ds h) (omega arith, tt)))
  where
    no_decimal : (x : ℕ) → x < 48 → is_ascii_digit x ≡ false
    no_decimal x l = grind (arith, nat_tests)
lacks-written_text c low other (OfNumber Constant ds) h =
    ((λ e. other (sym e)), (omega arith, (omega arith, lacks_some is_hexadecimal_digit c (no_hexadecimal c low) ds h)))
  where
    no_hexadecimal : (x : ℕ) → x < 48 → is_hexadecimal_digit x ≡ false
    no_hexadecimal x l = grind (arith, nat_tests)
lacks-written_text c low other (OfNumber Decimal ds) h = lacks_some is_ascii_digit c (no_decimal c low) ds h
  where
    no_decimal : (x : ℕ) → x < 48 → is_ascii_digit x ≡ false
    no_decimal x l = grind (arith, nat_tests)
lacks-written_text c low other (OfNumber Hexadecimal ds) h =
    (omega arith, (omega arith, lacks_some is_hexadecimal_digit c (no_hexadecimal c low) ds h))
  where
    no_hexadecimal : (x : ℕ) → x < 48 → is_hexadecimal_digit x ≡ false
    no_hexadecimal x l = grind (arith, nat_tests)

no_comma : (p : Written) → IsWritten p → Lacks 44 (written_text p)
no_comma p h = lacks-written_text 44 (lit< tt) (λ e. omega arith) p h

-- Several pieces.

pub arguments_at-one : (p : Written) → IsWritten p → arguments_at (written_text p) ≡ Some (One (part_of p))
unfolding arguments_at
arguments_at-one p h = rw (split_at_none 44 (written_text p) (no_comma p h), part_at-written_text p h) refl

pub arguments_at-three : (p q r : Written) → IsWritten p → IsWritten q → IsWritten r
    → arguments_at (written_text p ++ 44 ∷ (written_text q ++ 44 ∷ written_text r)) ≡ Some (Three (part_of p) (part_of q) (part_of r))
unfolding arguments_at
arguments_at-three p q r hp hq hr =
    rw (
      split_at_first 44 (written_text p) (written_text q ++ 44 ∷ written_text r) (no_comma p hp),
      part_at-written_text p hp,
      split_at_first 44 (written_text q) (written_text r) (no_comma q hq),
      part_at-written_text q hq,
      split_at_none 44 (written_text r) (no_comma r hr),
      part_at-written_text r hr,
    ) refl

pub arguments_at-four : (p q r s : Written) → IsWritten p → IsWritten q → IsWritten r → IsWritten s
    → arguments_at (written_text p ++ 44 ∷ (written_text q ++ 44 ∷ (written_text r ++ 44 ∷ written_text s)))
    ≡ Some (Four (part_of p) (part_of q) (part_of r) (part_of s))
unfolding arguments_at
arguments_at-four p q r s hp hq hr hs =
    rw (
      split_at_first 44 (written_text p) (written_text q ++ 44 ∷ (written_text r ++ 44 ∷ written_text s)) (no_comma p hp),
      part_at-written_text p hp,
      split_at_first 44 (written_text q) (written_text r ++ 44 ∷ written_text s) (no_comma q hq),
      part_at-written_text q hq,
      split_at_first 44 (written_text r) (written_text s) (no_comma r hr),
      part_at-written_text r hr,
      part_at-written_text s hs,
    ) refl

-- the pieces that a text is, and that are read as these arguments
pub data Spells (text : List ℕ) (arguments : Arguments) : Type 0 where
  OfOne : (p : Written) → IsWritten p → text ≡ written_text p → arguments ≡ One (part_of p) → Spells text arguments
  OfThree : (p q r : Written) → IsWritten p → IsWritten q → IsWritten r
      → text ≡ written_text p ++ 44 ∷ (written_text q ++ 44 ∷ written_text r)
      → arguments ≡ Three (part_of p) (part_of q) (part_of r) → Spells text arguments
  OfFour : (p q r s : Written) → IsWritten p → IsWritten q → IsWritten r → IsWritten s
      → text ≡ written_text p ++ 44 ∷ (written_text q ++ 44 ∷ (written_text r ++ 44 ∷ written_text s))
      → arguments ≡ Four (part_of p) (part_of q) (part_of r) (part_of s) → Spells text arguments

spelled_three : (text first second third : List ℕ) (a b c : Part) (arguments : Arguments)
    → text ≡ first ++ 44 ∷ (second ++ 44 ∷ third) → Shows first a → Shows second b → Shows third c → Three a b c ≡ arguments
    → Spells text arguments
spelled_three text first second third a b c arguments e (p, hp, tp, vp) (q, hq, tq, vq) (r, hr, tr, vr) made =
    OfThree p q r hp hq hr (rw (e, tp, tq, tr) refl) (rw (vp, vq, vr) (sym made))

spelled_four : (text first second third fourth : List ℕ) (a b c d : Part) (arguments : Arguments)
    → text ≡ first ++ 44 ∷ (second ++ 44 ∷ (third ++ 44 ∷ fourth)) → Shows first a → Shows second b → Shows third c → Shows fourth d
    → Four a b c d ≡ arguments → Spells text arguments
spelled_four text first second third fourth a b c d arguments e (p, hp, tp, vp) (q, hq, tq, vq) (r, hr, tr, vr) (s, hs, ts, vs) made =
    OfFour p q r s hp hq hr hs (rw (e, tp, tq, tr, ts) refl) (rw (vp, vq, vr, vs) (sym made))

last_parts_sound : (text first second rest : List ℕ) (a b : Part) (arguments : Arguments) (o : Option (List ℕ × List ℕ))
    → text ≡ first ++ 44 ∷ (second ++ 44 ∷ rest) → Shows first a → Shows second b → split_at 44 rest ≡ o
    → last_parts a b rest o ≡ Some arguments → Spells text arguments
last_parts_sound text first second rest a b arguments None e sa sb cut h =
    let third = bind_some (part_at rest) (λ c. Some (Three a b c)) arguments h in
    spelled_three text first second rest a b third.0 arguments e sa sb (part_at_sound rest third.0 third.1) cc
last_parts_sound text first second rest a b arguments (Some both_parts) e sa sb cut h =
    let third = bind_some (part_at both_parts.0) (λ c. option_and_then (λ d. Some (Four a b c d)) (part_at both_parts.1)) arguments h in
    let fourth = bind_some (part_at both_parts.1) (λ d. Some (Four a b third.0 d)) arguments third.2 in
    let whole = split_at_sound 44 rest both_parts cut in
    spelled_four text first second both_parts.0 both_parts.1 a b third.0 fourth.0 arguments
    (e ∙ ap (λ t. first ++ 44 ∷ (second ++ 44 ∷ t)) whole.0) sa sb
    (part_at_sound both_parts.0 third.0 third.1) (part_at_sound both_parts.1 fourth.0 fourth.1) cc

parts_of_sound : (text : List ℕ) (arguments : Arguments) (o : Option (List ℕ × List ℕ)) → split_at 44 text ≡ o
    → parts_of text o ≡ Some arguments → Spells text arguments
parts_of_sound text arguments None cut h =
    let one = bind_some (part_at text) (λ a. Some (One a)) arguments h in
    let (p, hp, tp, vp) = part_at_sound text one.0 one.1 in
    let made : One one.0 ≡ arguments = cc in
    OfOne p hp tp (sym made ∙ ap One (sym vp))
parts_of_sound text arguments (Some cut_parts) cut h =
    let after : Part → List ℕ × List ℕ → Option Arguments =
    λ a more. option_and_then (λ b. last_parts a b more.1 (split_at 44 more.1)) (part_at more.0) in
    let first = bind_some (part_at cut_parts.0) (λ a. option_and_then (after a) (split_at 44 cut_parts.1)) arguments h in
    let more = bind_some (split_at 44 cut_parts.1) (after first.0) arguments first.2 in
    let second = bind_some (part_at more.0.0) (λ b. last_parts first.0 b more.0.1 (split_at 44 more.0.1)) arguments more.2 in
    let whole = split_at_sound 44 text cut_parts cut in
    let rest = split_at_sound 44 cut_parts.1 more.0 more.1 in
    last_parts_sound text cut_parts.0 more.0.0 more.0.1 first.0 second.0 arguments (split_at 44 more.0.1)
    (whole.0 ∙ ap (λ t. cut_parts.0 ++ 44 ∷ t) rest.0)
    (part_at_sound cut_parts.0 first.0 first.1) (part_at_sound more.0.0 second.0 second.1) refl second.2

pub arguments_at_sound : (text : List ℕ) (arguments : Arguments) → arguments_at text ≡ Some arguments → Spells text arguments
unfolding arguments_at
arguments_at_sound text arguments h = parts_of_sound text arguments (split_at 44 text) refl h
