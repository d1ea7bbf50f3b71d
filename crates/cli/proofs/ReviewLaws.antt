-- What `review` tells, by the words behind the first bundle.
use Rattle.std.proofs.Common.{◌≡◌, ◌≢◌, ◌⊎◌, ℕ, List, [], ◌∷◌, codes, subst}
use Rattle.std.specs.Prelude.{Bool, true, false, IfOk, Option, Result, Ok, Err}
use Rattle.std.specs.Str.{bytes_eq}
use Rattle.texts.specs.Failures.{Failures}
use Rattle.review.specs.Reviewed.{IsReviewed}
use Rattle.cli.specs.Dispatch.{AnswersReview, AnswersTold, StopsAtWords}
use Rattle.cli.specs.Files.{Folder}
use Rattle.cli.specs.Paged.{TellsPage, TellsPages}
use Rattle.cli.specs.Parts.{Parts}
use Rattle.cli.specs.Told.{OfBundle, OfBundles, of_one, of_two}
use Rattle.cli.specs.declared.stops.Stop.{Stop}

module _ {O : Type 0} (held : O → Option (List ℕ)) (failures : O → Failures) (folder : Option Folder) (old new : O) (p : Parts)
    (result : Result Bool Stop) where
  abbrev Answers : Bool → Bool → Type 0
  Answers two one = AnswersReview held failures folder old new two one p result

  abbrev html_two : Bool
  html_two = bytes_eq p.four (codes "html")

  abbrev html_one : Bool
  html_one = bytes_eq p.three (codes "html")

  pub behind_two : true ≡ html_two
      → AnswersTold held failures folder old new (p.two ∷ p.three ∷ [])
      (of_two (OfBundles p.native (TellsPages p.native p.two p.three))) result
      → Answers html_two html_one
  behind_two e h = subst (λ b. Answers b html_one) e h

  pub behind_one : false ≡ html_two → true ≡ html_one
      → AnswersTold held failures folder old new (p.two ∷ []) (of_one (OfBundle p.native (TellsPage p.native p.two))) result
      → Answers html_two html_one
  behind_one e f h = subst (λ b. Answers b html_one) e (subst (λ b. Answers false b) f h)

  pub behind_neither : false ≡ html_two → false ≡ html_one
      → ((p.three ≡ [])
      × AnswersTold held failures folder old new (p.two ∷ []) (of_one (OfBundle p.native (IsReviewed p.native))) result)
      ⊎ ((p.three ≢ []) × StopsAtWords held failures folder old new result)
      → Answers html_two html_one
  behind_neither e f h = subst (λ b. Answers b html_one) e (subst (λ b. Answers false b) f h)

-- ---- what is told, if memory is given

pub if_ok : {T E : Type 0} (result : Result T E) (P Q : T → Type 0) → ((told : T) → P told → Q told) → IfOk result P
    → IfOk result Q
if_ok (Ok told) P Q f h = f told h
if_ok (Err fault) P Q f h = tt
