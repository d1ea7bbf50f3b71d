-- A table where nothing stands twice is looked up both ways alike.
use Rattle.std.proofs.Common.{◌≡◌, ℕ, ◌==◌, ◌&&◌, true, false, List, [], ◌∷◌, Option, Some, None, is_none}
use Rattle.std.proofs.Common.{refl, sym, ◌∙◌, ap, inl, inr}
use Rattle.std.specs.Str.{bytes_eq}
use Rattle.std.proofs.lemmas.Bool.{and_parts, cases_Bool}
use Rattle.std.proofs.lemmas.Bool.Decides.{Decides-eqb}
use Rattle.std.proofs.lemmas.Option.{same_Some}
use Rattle.std.proofs.lemmas.Slice.Eq.{bytes_eq-Decides}
use Rattle.call_tables.specs.Table.{Table, number_in, name_in, IsInverse, is_one_to_one}

not_some : {X : Type 0} (o : Option X) (x : X) → is_none o ≡ true → o ≡ Some x → ⊥
not_some None x h e = cc
not_some (Some y) x h e = cc

-- the two lookups at an entry that is found, and at one that is passed
pub number_here : (n : List ℕ) (k : ℕ) (es : Table) (name : List ℕ) → bytes_eq n name ≡ true → number_in ((n, k) ∷ es) name ≡ Some k
number_here n k es name h = rw h refl

pub number_past : (n : List ℕ) (k : ℕ) (es : Table) (name : List ℕ) → bytes_eq n name ≡ false → number_in ((n, k) ∷ es) name ≡ number_in es name
number_past n k es name h = rw h refl

name_here : (n : List ℕ) (k : ℕ) (es : Table) (nr : ℕ) → (k == nr) ≡ true → name_in ((n, k) ∷ es) nr ≡ Some n
name_here n k es nr h = rw h refl

name_past : (n : List ℕ) (k : ℕ) (es : Table) (nr : ℕ) → (k == nr) ≡ false → name_in ((n, k) ∷ es) nr ≡ name_in es nr
name_past n k es nr h = rw h refl

pub named : (t : Table) → is_one_to_one t ≡ true → (name : List ℕ) (nr : ℕ) → number_in t name ≡ Some nr → name_in t nr ≡ Some name
named [] h name nr e = cc
named ((n, k) ∷ es) h name nr e =
    let outer = and_parts (is_none (number_in es n) && is_none (name_in es k)) (is_one_to_one es) h in
    let inner = and_parts (is_none (number_in es n)) (is_none (name_in es k)) outer.0 in
    elim (cases_Bool (bytes_eq n name)) [
      | inl hit ↦
          let same : k ≡ nr = same_Some k nr (sym (number_here n k es name hit) ∙ e) in
          let alike : n ≡ name = (bytes_eq-Decides n name).0 hit in
          name_here n k es nr ((Decides-eqb k nr).1 same) ∙ ap Some alike
      | inr miss ↦
          let rest : name_in es nr ≡ Some name = named es outer.1 name nr (sym (number_past n k es name miss) ∙ e) in
          elim (cases_Bool (k == nr)) [
            | inl here ↦
                let same : k ≡ nr = (Decides-eqb k nr).0 here in
                absurd (not_some (name_in es k) name inner.1 (ap (name_in es) same ∙ rest))
            | inr past ↦ name_past n k es nr past ∙ rest
          ]
    ]

pub numbered : (t : Table) → is_one_to_one t ≡ true → (name : List ℕ) (nr : ℕ) → name_in t nr ≡ Some name → number_in t name ≡ Some nr
numbered [] h name nr e = cc
numbered ((n, k) ∷ es) h name nr e =
    let outer = and_parts (is_none (number_in es n) && is_none (name_in es k)) (is_one_to_one es) h in
    let inner = and_parts (is_none (number_in es n)) (is_none (name_in es k)) outer.0 in
    elim (cases_Bool (k == nr)) [
      | inl hit ↦
          let same : n ≡ name = same_Some n name (sym (name_here n k es nr hit) ∙ e) in
          let alike : k ≡ nr = (Decides-eqb k nr).0 hit in
          number_here n k es name ((bytes_eq-Decides n name).1 same) ∙ ap Some alike
      | inr miss ↦
          let rest : number_in es name ≡ Some nr = numbered es outer.1 name nr (sym (name_past n k es nr miss) ∙ e) in
          elim (cases_Bool (bytes_eq n name)) [
            | inl here ↦
                let same : n ≡ name = (bytes_eq-Decides n name).0 here in
                absurd (not_some (number_in es n) nr inner.0 (ap (number_in es) same ∙ rest))
            | inr past ↦ number_past n k es name past ∙ rest
          ]
    ]

pub one_to_one-inverse : (t : Table) → is_one_to_one t ≡ true → IsInverse t
one_to_one-inverse t h name nr = (named t h name nr, numbered t h name nr)
