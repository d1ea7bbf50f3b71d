-- The literals of chains, as entries are added.
use Rattle.std.proofs.Common.{◌≡◌, ℕ, zero, suc, ◌<◌, ◌≤◌, List, [], ◌∷◌, ◌++◌, length}
use Rattle.std.proofs.Common.{reverse, refl, ap, sym, ◌∙◌, subst, arith, ⊎_elim}
use Rattle.std.specs.Prelude.{Some, slice_get, All}
use Rattle.std.proofs.lemmas.Option.{same_Some}
use Rattle.std.proofs.lemmas.Bool.{eq-eqb, ne_eqb, cases_lt, cases_eq}
use Rattle.std.proofs.lemmas.List.{reverse-append, length-append, length-reverse, append_assoc}
use Rattle.std.proofs.lemmas.List.Elements.{All-cons, All-nil}
use Rattle.cert_state.specs.declared.literal.Lit.{Lit}
use Rattle.cert_form.specs.Nodes.{on_chain_back, literals}

back_here : (e : ℕ × Lit) (bs : List (ℕ × Lit)) (n : ℕ) → n ≡ suc (length bs) → on_chain_back (e ∷ bs) n ≡ e.1 ∷ on_chain_back bs e.0
back_here e bs n h = rw (eq-eqb n (suc (length bs)) h) refl

back_before : (e : ℕ × Lit) (bs : List (ℕ × Lit)) (n : ℕ) → n ≤ length bs → on_chain_back (e ∷ bs) n ≡ on_chain_back bs n
back_before e bs n h = rw (ne_eqb n (suc (length bs)) (λ g. omega (arith, h, g))) refl

back_more : (ms bs : List (ℕ × Lit)) (n : ℕ) → n ≤ length bs → on_chain_back (ms ++ bs) n ≡ on_chain_back bs n
back_more [] bs n h = refl
back_more (m ∷ ms) bs n h = back_before m (ms ++ bs) n (omega (arith, h, length-append ms bs)) ∙ back_more ms bs n h

back_past : (bs : List (ℕ × Lit)) (n : ℕ) → length bs < n → on_chain_back bs n ≡ []
back_past [] n h = refl
back_past (b ∷ bs) n h = rw (ne_eqb n (suc (length bs)) (λ g. omega (arith, g))) (back_past bs n (omega arith))

back_none : (bs : List (ℕ × Lit)) → on_chain_back bs 0 ≡ []
back_none [] = refl
back_none (b ∷ bs) = back_before b bs 0 (omega arith) ∙ back_none bs

-- chains stay as they are, the newest entry comes first, and there is none at 0 or past the last
pub literals_more : (es more : List (ℕ × Lit)) (n : ℕ) → n ≤ length es → literals (es ++ more) n ≡ literals es n
literals_more es more n h =
    ap (λ bs. on_chain_back bs n) (reverse-append es more) ∙ back_more (reverse more) (reverse es) n (omega (arith, h, length-reverse es))

pub literals_push : (es : List (ℕ × Lit)) (c n : ℕ) (l : Lit) → n ≡ suc (length es) → literals (es ++ (c, l) ∷ []) n ≡ l ∷ literals es c
literals_push es c n l h =
    ap (λ bs. on_chain_back bs n) (reverse-append es ((c, l) ∷ [])) ∙ back_here (c, l) (reverse es) n (omega (arith, h, length-reverse es))

pub literals_past : (es : List (ℕ × Lit)) (n : ℕ) → length es < n → literals es n ≡ []
literals_past es n h = back_past (reverse es) n (omega (arith, h, length-reverse es))

pub literals_none : (es : List (ℕ × Lit)) → literals es 0 ≡ []
literals_none es = back_none (reverse es)

-- an entry stands between those before it and those after it
pub record IsBetween (es : List (ℕ × Lit)) (j : ℕ) (e : ℕ × Lit) : Type 0 where
  pub front : List (ℕ × Lit)
  pub back : List (ℕ × Lit)
  pub parts : es ≡ (front ++ e ∷ []) ++ back
  pub place : length front ≡ j

between : (es : List (ℕ × Lit)) (j : ℕ) (e : ℕ × Lit) → slice_get es j ≡ Some e → IsBetween es j e
between [] j e h = cc
between (x ∷ es) zero e h = record { front = []; back = es; parts = ap (λ y. y ∷ es) (same_Some x e h); place = refl }
between (x ∷ es) (suc j) e h =
    let b = between es j e h in
    record { front = x ∷ b.front; back = b.back; parts = ap (λ ys. x ∷ ys) b.parts; place = ap suc b.place }

-- a chain is the literal of its entry, and the chain of the parent
pub chain_next : (es : List (ℕ × Lit)) (j : ℕ) (e : ℕ × Lit) → slice_get es j ≡ Some e → e.0 ≤ j
    → literals es (suc j) ≡ e.1 ∷ literals es e.0
chain_next es j e h earlier =
    let b = between es j e h in
    let front = b.front in
    let here : literals es (suc j) ≡ literals (front ++ e ∷ []) (suc j) =
    ap (λ (xs : List (ℕ × Lit)). literals xs (suc j)) b.parts
    ∙ literals_more (front ++ e ∷ []) b.back (suc j) (omega (arith, length-append front (e ∷ []), b.place)) in
    let first : literals (front ++ e ∷ []) (suc j) ≡ e.1 ∷ literals front e.0 =
    literals_push front e.0 (suc j) e.1 (ap suc (sym b.place)) in
    let rest : literals front e.0 ≡ literals es e.0 =
    sym (literals_more front (e ∷ b.back) e.0 (omega (arith, earlier, b.place)))
    ∙ ap (λ (xs : List (ℕ × Lit)). literals xs e.0) (sym (append_assoc front (e ∷ []) b.back) ∙ sym b.parts) in
    here ∙ first ∙ ap (λ ls. e.1 ∷ ls) rest

-- what holds of the literals of each chain holds with one entry more
pub all_push : (P : Lit → Type 0) (es : List (ℕ × Lit)) (c : ℕ) (l : Lit) → ((n : ℕ) → All P (literals es n)) → P l
    → (n : ℕ) → All P (literals (es ++ (c, l) ∷ []) n)
all_push P es c l old new n = ⊎_elim
    (λ (less : length es < n). ⊎_elim
    (λ (is : n ≡ suc (length es)). subst (λ ls. All P ls) (sym (literals_push es c n l is)) (All-cons P l (literals es c) new (old c)))
    (λ (not : n ≡ suc (length es) → ⊥).
    subst (λ ls. All P ls)
    (sym (literals_past (es ++ (c, l) ∷ []) n (omega (arith, less, not, length-append es ((c, l) ∷ []))))) (All-nil P))
    (cases_eq n (suc (length es))))
    (λ (more : n ≤ length es). subst (λ ls. All P ls) (sym (literals_more es ((c, l) ∷ []) n more)) (old n))
    (cases_lt (length es) n)
