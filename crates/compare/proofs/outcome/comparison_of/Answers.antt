use Rattle.std.proofs.Common.{◌≡◌, List, [], length, refl, sym, ◌∙◌, ap, subst, arith, vec_len}
use Rattle.std.specs.List.{list_any}
use Rattle.std.proofs.lemmas.Bool.{eqb-false, eqb-true}
use Rattle.std.proofs.lemmas.List.{nil_from_length}
use Rattle.compare.specs.Complete.{AreListed}
use Rattle.compare.specs.Order.{IsSides, is_less, is_more}
use Rattle.compare.specs.inner.Sided.{sides_of}
use Rattle.compare.specs.declared.change.Change.{Change}
use Rattle.compare.specs.declared.search.Crowded.{Crowded}
use Rattle.compare.specs.declared.sides.Sides.{Sides}
use Rattle.compare.proofs.CompleteLaws.{none_same, sides_are}
use Rattle.compare.proofs.outcome.comparison_of.Goals as goal

pub returns-then-is_empty : goal.returns-then-is_empty
returns-then-is_empty c = λ family listed.
    let p = c.args.first.now in
    let q = c.args.second.now in
    let free : c.args.crowded.items ≡ [] =
    nil_from_length c.args.crowded.items (omega (arith, eqb-true (vec_len c.args.crowded) 0 (sym c.is_empty.ensures ∙ c.if-not-is_empty.false))) in
    let none : c.args.changes.items ≡ [] =
    nil_from_length c.args.changes.items (omega (arith, eqb-true (vec_len c.args.changes) 0 (sym c.is_empty-2.ensures ∙ c.if-is_empty.true))) in
    none_same family p q c.are_clear.ensures.first c.are_clear.ensures.second
    (subst (λ (cs : List Change). AreListed family p q cs []) none
    (subst (λ (ks : List Crowded). AreListed family p q c.args.changes.items ks) free listed))

pub returns : goal.returns
returns c = λ family listed.
    let p = c.args.first.now in
    let q = c.args.second.now in
    let changes : List Change = c.args.changes.items in
    let free : c.args.crowded.items ≡ [] =
    nil_from_length c.args.crowded.items (omega (arith, eqb-true (vec_len c.args.crowded) 0 (sym c.is_empty.ensures ∙ c.if-not-is_empty.false))) in
    let all : AreListed family p q changes [] = subst (λ (ks : List Crowded). AreListed family p q changes ks) free listed in
    let is : c.sides_of-sides.result ≡ sides_of (list_any (λ e. is_more e.first) changes) (list_any (λ e. is_less e.first) changes) =
    c.sides_of-sides.ensures
    ∙ ap (λ (l : List Change). sides_of (list_any (λ e. is_more e.first) l) (list_any (λ e. is_less e.first) l)) c.deref.ensures.value in (
      λ none.
          eqb-false (vec_len c.args.changes) 0 (sym c.is_empty-2.ensures ∙ c.if-is_empty.false) (omega (arith, ap (λ l. length l) none)),
      (
        all,
        subst (λ (s : Sides). IsSides p q changes s) (sym is)
            (sides_are family p q changes _ _ c.are_clear.ensures.first c.are_clear.ensures.second all refl refl),
      ),
    )
