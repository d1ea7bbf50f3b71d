-- A response is read exactly where a line says it.
use Rattle.std.proofs.Common.{◌≡◌, ℕ, ◌≤◌, Bool, true, false, cond, List, ◌∷◌, ◌++◌, length, refl, ap, sym, ◌∙◌, subst, inl, inr, arith, append_assoc}
use Rattle.std.specs.Prelude.{◌⊎◌, ◌==◌, nat_lt, Option, Some, None, codes, IsUtf8, MatchOption}
use Rattle.std.specs.Option.{option_map}
use Rattle.std.specs.Str.{bytes_eq}
use denote.Ref.{Bor}
use Rattle.std.proofs.lemmas.Bool.{cond-false, eqb-false, le-ltb, ltb-false, ne_eqb}
use Rattle.std.proofs.lemmas.Option.{none-some, same_Some}
use Rattle.std.proofs.lemmas.Slice.Eq.{bytes_eq-Decides}
use Rattle.texts.specs.Lines.{space}
use Rattle.texts.proofs.Options.{bind_some, chosen, tested}
use Rattle.texts.proofs.Splits.{Lacks}
use Rattle.script.specs.Numbers.{IsNumber}
use Rattle.script.specs.inner.Reading.{number_at}
use Rattle.processes.specs.declared.outcome.Response.{Response}
use Rattle.processes.specs.declared.outcome.Response.TheVariants.{Value, Error, Continue}
use Rattle.session.specs.Responses.{Responds, Says}
use Rattle.session.specs.inner.Responding.{before_number, call_before, ended_at, ended_by, error_at, last_said, last_split, numbered_end, worded}
use Rattle.session.proofs.NumberLaws.{continue_is_none, from_test, number_at-is, number_at-some, number_lacks}
use Rattle.session.proofs.SplitLaws.{split_last, split_parts}

-- a number that a word may stand before
error_some : (n : ℕ) (r : Response) → error_at n ≡ Some r → (r ≡ Error n) × (1 ≤ n) × (n ≤ 4095)
error_some n r h = by_zero (n == 0) refl h where
  by_size : (t : Bool) → nat_lt 4095 n ≡ t → cond {A = Option Response} t None (Some (Error n)) ≡ Some r → (Error n ≡ r) × (n ≤ 4095)
  by_size true e g = absurd (cc)
  by_size false e g = (same_Some (Error n) r g, ltb-false 4095 n e)

  by_zero : (t : Bool) → (n == 0) ≡ t → cond {A = Option Response} t None (cond (nat_lt 4095 n) None (Some (Error n))) ≡ Some r
      → (r ≡ Error n) × (1 ≤ n) × (n ≤ 4095)
  by_zero true e g = absurd (cc)
  by_zero false e g =
      let size = by_size (nat_lt 4095 n) refl g in
      let some = eqb-false n 0 e in
      (sym size.0, omega arith, size.1)

error_is : (n : ℕ) → 1 ≤ n → n ≤ 4095 → error_at n ≡ Some (Error n)
error_is n some few =
    cond-false (n == 0) None (cond (nat_lt 4095 n) None (Some (Error n))) (ne_eqb n 0 (λ e. omega arith))
    ∙ cond-false (nat_lt 4095 n) None (Some (Error n)) (le-ltb 4095 n few)

-- A word and a number.

worded_some : (word digits : List ℕ) (n : ℕ) (r : Response) → IsNumber digits n → worded word n ≡ Some r → Says (word ++ space ∷ digits) r
worded_some word digits n r is h =
    by_word (chosen (bytes_eq word (codes "value")) (Some (Value n)) (cond (bytes_eq word (codes "error")) (error_at n) None) r h) where
      valued : bytes_eq word (codes "value") ≡ true → Value n ≡ r → Says (word ++ space ∷ digits) r
      valued e same =
          subst (λ (s : Response). Says (word ++ space ∷ digits) s) same
          (digits, ap (λ (w : List ℕ). w ++ space ∷ digits) ((bytes_eq-Decides word (codes "value")).0 e), is)

      failed : bytes_eq word (codes "error") ≡ true → (r ≡ Error n) × (1 ≤ n) × (n ≤ 4095) → Says (word ++ space ∷ digits) r
      failed e g =
          subst (λ (s : Response). Says (word ++ space ∷ digits) s) (sym g.0)
          (digits, ap (λ (w : List ℕ). w ++ space ∷ digits) ((bytes_eq-Decides word (codes "error")).0 e), is, g.1, g.2)

      by_word : ((bytes_eq word (codes "value") ≡ true) × (Some (Value n) ≡ Some r))
          ⊎ ((bytes_eq word (codes "value") ≡ false) × (cond {A = Option Response} (bytes_eq word (codes "error")) (error_at n) None ≡ Some r))
          → Says (word ++ space ∷ digits) r
      by_word (inl g) = valued g.0 (same_Some (Value n) r g.1)
      by_word (inr g) = let t = tested (bytes_eq word (codes "error")) (error_at n) r g.1 in failed t.0 (error_some n r t.1)

-- The end of a text.

-- a text that ends with a response behind a space
abbrev pub Ends : List ℕ → List ℕ → Response → Type 0
Ends text call r = (words : List ℕ) × (text ≡ call ++ space ∷ words) × Says words r

numbered_some : (text before digits : List ℕ) (n : ℕ) (p : List ℕ × Response) → text ≡ before ++ space ∷ digits → IsNumber digits n
    → numbered_end before n ≡ Some p → Ends text p.0 p.1
unfolding numbered_end
numbered_some text before digits n p cut is h =
    let parts = bind_some (last_split before) (before_number n) p h in
    let said = bind_some (worded parts.0.1 n) (call_before parts.0.0) p parts.2 in
    let same : (parts.0.0, said.0) ≡ p = same_Some {A = List ℕ × Response} (parts.0.0, said.0) p said.2 in
    let found : Ends text parts.0.0 said.0 = (
      parts.0.1 ++ space ∷ digits,
      cut ∙ ap (λ (t : List ℕ). t ++ space ∷ digits) (split_parts before parts.0 parts.1)
          ∙ append_assoc parts.0.0 (space ∷ parts.0.1) (space ∷ digits),
      worded_some parts.0.1 digits n said.0 is said.1,
    ) in
    subst (λ (q : List ℕ × Response). Ends text q.0 q.1) same found

pub ended_some : (text : List ℕ) (p : List ℕ × Response) → ended_at text ≡ Some p → Ends text p.0 p.1
unfolding ended_at
ended_some text p h =
    let parts = bind_some (last_split text) last_said p h in
    by_number parts.0 (split_parts text parts.0 parts.1) (number_at parts.0.1) refl parts.2 where
      by_number : (parts : List ℕ × List ℕ) → text ≡ parts.0 ++ space ∷ parts.1 → (o : Option ℕ) → number_at parts.1 ≡ o
          → ended_by parts o ≡ Some p → Ends text p.0 p.1
      by_number parts cut (Some n) is g = numbered_some text parts.0 parts.1 n p cut (number_at-some parts.1 n is) g
      by_number parts cut None is g =
          let t = tested {A = List ℕ × Response} (bytes_eq parts.1 (codes "continue")) (Some (parts.0, Continue)) p g in
          let same : (parts.0, Continue) ≡ p = same_Some {A = List ℕ × Response} (parts.0, Continue) p t.1 in
          let found : Ends text parts.0 Continue = (parts.1, cut, (bytes_eq-Decides parts.1 (codes "continue")).0 t.0) in
          subst (λ (q : List ℕ × Response). Ends text q.0 q.1) same found

-- a word and a number at the end
two_words : (text call word digits : List ℕ) (n : ℕ) (r : Response) → text ≡ call ++ space ∷ (word ++ space ∷ digits) → Lacks space word
    → IsNumber digits n → worded word n ≡ Some r → ended_at text ≡ Some (call, r)
unfolding ended_at numbered_end
two_words text call word digits n r cut free is said =
    let again : text ≡ (call ++ space ∷ word) ++ space ∷ digits = cut ∙ sym (append_assoc call (space ∷ word) (space ∷ digits)) in
    let last : last_split text ≡ Some (call ++ space ∷ word, digits) =
    ap last_split again ∙ split_last (call ++ space ∷ word) digits (number_lacks digits n is) in
    rw (last, number_at-is digits n is, split_last call word free, said) refl

pub ended_is : (text call words : List ℕ) (r : Response) → text ≡ call ++ space ∷ words → Says words r → ended_at text ≡ Some (call, r)
unfolding ended_at
ended_is text call words (Value n) cut says =
    two_words text call (codes "value") says.0 n (Value n) (cut ∙ ap (λ (w : List ℕ). call ++ space ∷ w) says.1)
    (from_test (codes "value") refl) says.2 refl
ended_is text call words (Error n) cut says =
    two_words text call (codes "error") says.0 n (Error n) (cut ∙ ap (λ (w : List ℕ). call ++ space ∷ w) says.1)
    (from_test (codes "error") refl) says.2 (error_is n says.3 says.4)
ended_is text call words Continue cut says =
    let last : last_split text ≡ Some (call, codes "continue") =
    ap last_split (cut ∙ ap (λ (w : List ℕ). call ++ space ∷ w) says)
    ∙ split_last call (codes "continue") (from_test (codes "continue") refl) in
    rw (last, continue_is_none) refl

-- Lines.

-- a line responds in one way at most
pub one_response : (line call other : List ℕ) (r s : Response) → Responds line call r → Responds line other s → (call ≡ other) × (r ≡ s)
one_response line call other r s h g =
    let same : (call, r) ≡ (other, s) =
    same_Some {A = List ℕ × Response} (call, r) (other, s) (sym (ended_is line call h.words r h.parts h.says) ∙ ended_is line other g.words s g.parts g.says) in
    (ap (λ (p : List ℕ × Response). p.0) same, ap (λ (p : List ℕ × Response). p.1) same)

-- what is read of a line
pub read_is : (line text rest : List ℕ) (o : Option (Bor (List ℕ) × Response)) → text ≡ line → length line ≤ 70000 → IsUtf8 line
    → text ≡ codes "call " ++ rest → option_map (λ p. (p.0.now, p.1)) o ≡ ended_at text
    → MatchOption o ((call : List ℕ) (r : Response) → Responds line call r → ⊥) (λ p. Responds line p.0.now p.1)
read_is line text rest None same short utf8 begins read =
    λ call r h. none-some {A = List ℕ × Response} (call, r) (read ∙ (ap ended_at same ∙ ended_is line call h.words r h.parts h.says))
read_is line text rest (Some p) same short utf8 begins read =
    let e = ended_some text (p.0.now, p.1) (sym read) in
    record {
      short = short;
      utf8 = utf8;
      rest = rest;
      begins = sym same ∙ begins;
      words = e.0;
      parts = sym same ∙ e.1;
      says = e.2;
    }
