use Rattle.std.proofs.Common.{[], ◌∷◌, inl, inr, length, refl, ap, sym}
use Rattle.std.proofs.lemmas.Bool.{eqb-false, eqb-true}
use Rattle.std.proofs.lemmas.List.{nil_from_length}
use Rattle.std.specs.Prelude.{Err}
use Rattle.review.specs.Reviewed.{IsReviewed}
use Rattle.cli.specs.Paged.{TellsPage, TellsPages}
use Rattle.cli.specs.Parts.{read}
use Rattle.cli.specs.declared.stops.Stop.TheVariants.{Usage}
use Rattle.cli.specs.Told.{OfBundle, OfBundles, of_one, of_two}
use Rattle.cli.proofs.DispatchLaws.{answers_told}
use Rattle.cli.proofs.ReviewLaws.{behind_neither, behind_one, behind_two}
use Rattle.cli.proofs.reviewing.review_as.Goals as goal

pub returns-then-eq : goal.returns-then-eq
returns-then-eq g c =
    let p = c.args.parts in
    let folder = g.F.Files.folder c.args.files.now in
    behind_two g.O.Sink.held g.O.Sink.failures folder c.args.out.now c.tell.new.out (read p) c.tell.result c.if-eq.ensures
    (answers_told g.O.Sink.held g.O.Sink.failures folder (p.two.now ∷ p.three.now ∷ [])
    (of_two (OfBundles p.native (TellsPages p.native p.two.now p.three.now)))
    c.args.out.now c.tell.new.out c.tell.result c.both_paged.result c.both_paged.ensures c.tell.ensures)

pub returns-then-eq-2 : goal.returns-then-eq-2
returns-then-eq-2 g c =
    let p = c.args.parts in
    let folder = g.F.Files.folder c.args.files.now in
    behind_one g.O.Sink.held g.O.Sink.failures folder c.args.out.now c.tell-then-eq-2.new.out (read p) c.tell-then-eq-2.result
    c.if-eq.ensures c.if-eq-2.ensures
    (answers_told g.O.Sink.held g.O.Sink.failures folder (p.two.now ∷ []) (of_one (OfBundle p.native (TellsPage p.native p.two.now)))
    c.args.out.now c.tell-then-eq-2.new.out c.tell-then-eq-2.result c.paged.result c.paged.ensures c.tell-then-eq-2.ensures)

pub returns-then-is_empty : goal.returns-then-is_empty
returns-then-is_empty g c =
    let p = c.args.parts in
    let folder = g.F.Files.folder c.args.files.now in
    behind_neither g.O.Sink.held g.O.Sink.failures folder c.args.out.now c.tell-then-is_empty.new.out (read p) c.tell-then-is_empty.result
    c.if-eq.ensures c.if-eq-2.ensures
    (inl (
      nil_from_length p.three.now (eqb-true (length p.three.now) 0 (sym c.if-is_empty.ensures)),
      answers_told g.O.Sink.held g.O.Sink.failures folder (p.two.now ∷ []) (of_one (OfBundle p.native (IsReviewed p.native)))
          c.args.out.now c.tell-then-is_empty.new.out c.tell-then-is_empty.result c.reviewed.result c.reviewed.ensures
          c.tell-then-is_empty.ensures,
    ))

pub returns : goal.returns
returns g c =
    let p = c.args.parts in
    behind_neither g.O.Sink.held g.O.Sink.failures (g.F.Files.folder c.args.files.now) c.args.out.now c.args.out.now (read p) (Err Usage)
    c.if-eq.ensures c.if-eq-2.ensures
    (inr ((λ none. eqb-false (length p.three.now) 0 (sym c.if-is_empty.ensures) (ap length none)), (refl, refl)))
