-- A text means one profile, so what means the same profile once means each that the other does.
use Rattle.std.proofs.Common.{refl, ◌≡◌, ℕ, List, Bool, IfOk, IsTrue, subst, sym, ◌∙◌}
use Rattle.std.specs.Prelude.{◌≢◌, IfSome, None, Option, Some, Result, Ok, Err}
use Rattle.std.proofs.lemmas.Option.{same_Some}
use Rattle.serde_json.specs.Data.{Data}
use Rattle.machines.specs.declared.arch.Arch.{Arch}
use Rattle.profile.specs.Policy.{Policy}
use Rattle.profile_json.specs.Meaning.{Means}
use Rattle.profile_json.specs.Breaks.{Breaks}
use Rattle.profile_json.specs.Fault.{Fault}
use Rattle.profile_json.proofs.unbroken.Unbroken.{meaning_is_one, meaning_is_unbroken}
use Rattle.section.specs.Sections.{KeepsMeaning, MeansProfile}
use Rattle.section.specs.Texts.{IsKind, in_bundle}
use Rattle.section.specs.declared.kinds.Kind.{Kind}
use Rattle.section.specs.declared.kinds.Kind.TheVariants.{Section}

one_profile : (native : Arch) (bytes : List ℕ) (p q : Policy) → MeansProfile native bytes p → MeansProfile native bytes q → p ≡ q
one_profile native bytes p q m n =
    let same : m.0 ≡ n.0 = same_Some m.0 n.0 (sym m.1.1 ∙ n.1.1) in
    meaning_is_one n.0 native p q (subst (λ (t : Data). Means t native p) same m.2) n.2

pub same_meaning : (native : Arch) (bundle bytes : List ℕ) (p : Policy) → MeansProfile native bundle p → MeansProfile native bytes p
    → (q : Policy) → MeansProfile native bundle q → MeansProfile native bytes q
same_meaning native bundle bytes p m n q other =
    subst (λ (r : Policy). MeansProfile native bytes r) (one_profile native bundle p q m other) n

-- where the first means the profile, and the second too
pub kept_by : {E : Type 0} (native : Arch) (first second : List ℕ) (p : Policy) → MeansProfile native first p → (r : Result Bool E)
    → IfOk r (λ b. IsTrue b → MeansProfile native second p) → IfOk r (λ b. IsTrue b → KeepsMeaning native first second)
kept_by native first second p m (Ok b) h = λ t. same_meaning native first second p m (h t)
kept_by native first second p m (Err e) h = tt

-- a text with a fault means no profile
faulty : (native : Arch) (bytes : List ℕ) (o : Option Fault) → IfSome o (Breaks bytes native) → o ≢ None → (p : Policy)
    → MeansProfile native bytes p → ⊥
faulty native bytes (Some f) breaks some p m = meaning_is_unbroken bytes m.0 native p f m.1 m.2 breaks
faulty native bytes None breaks some p m = some refl

-- so it keeps all that it means
pub kept_of_none : {E : Type 0} (native : Arch) (first second : List ℕ) (o : Option Fault) → IfSome o (Breaks first native)
    → (r : Result Bool E) → IfOk r (λ _. o ≢ None) → IfOk r (λ b. IsTrue b → KeepsMeaning native first second)
kept_of_none native first second o breaks (Ok b) some = λ _ p m. absurd (faulty native first o breaks some p m)
kept_of_none native first second o breaks (Err e) some = tt

-- the bundle in which a section stands was read
pub in_its_bundle : {E : Type 0} (native : Arch) (section bundle : List ℕ) (p : Policy) (kind : Kind) → IsKind section kind
    → kind ≡ Section → bundle ≡ in_bundle section → (r : Result Bool E)
    → IfOk r (λ b. IsTrue b → MeansProfile native bundle p)
    → IfOk r (λ b. IsTrue b → IsKind section Section × MeansProfile native (in_bundle section) p)
in_its_bundle native section bundle p kind is same text (Ok b) h = λ t.
    (subst (λ (k : Kind). IsKind section k) same is, subst (λ (l : List ℕ). MeansProfile native l p) text (h t))
in_its_bundle native section bundle p kind is same text (Err e) h = tt
