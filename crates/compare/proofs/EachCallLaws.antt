-- What is so of all records where no call is found on which two profiles differ.
use Rattle.std.proofs.Common.{◌≡◌, ◌==◌, ℕ, List, refl, sym, subst}
use Rattle.std.proofs.lemmas.Bool.{not-false, eqb-true}
use Rattle.call_record.specs.Words.{IsRecord}
use Rattle.profile.specs.Policy.{Policy, IsClear, Says}
use Rattle.profile.specs.Said.{said}
use Rattle.profile.proofs.SaidLaws.{each_record_is_said_one_verdict}
use Rattle.differ.specs.Everywhere.{AreLike}
use Rattle.differ.specs.declared.direction.Direction.TheVariants.{Any, More}
use Rattle.compare.specs.Difference.{SayTheSame}
use Rattle.compare.specs.NoMore.{AllowsNoMore}

pub like_allows : (new old : Policy) → AreLike old new More → AllowsNoMore new old
like_allows new old like = λ r is v w one says. like r is v w one says

-- of one profile's verdict the other one says the same
said_too : (p q : Policy) → IsClear q.rules → AreLike p q Any → (r : List ℕ) → IsRecord r → (v : ℕ) → Says p r v → Says q r v
said_too p q clear like r is v says =
    let w = said q r in
    let one : Says q r w = (each_record_is_said_one_verdict q r w clear is).1 refl in
    subst (Says q r) (sym (eqb-true v w (not-false (v == w) (like r is v w says one)))) one

turned : (p q : Policy) → IsClear p.rules → AreLike p q Any → (r : List ℕ) → IsRecord r → (v : ℕ) → Says q r v → Says p r v
turned p q clear like r is v says =
    let w = said p r in
    let one : Says p r w = (each_record_is_said_one_verdict p r w clear is).1 refl in
    subst (Says p r) (eqb-true w v (not-false (w == v) (like r is w v one says))) one

pub like_same : (p q : Policy) → IsClear p.rules → IsClear q.rules → AreLike p q Any → SayTheSame p q
like_same p q clear-p clear-q like = λ r is v. (said_too p q clear-q like r is v, turned p q clear-p like r is v)
