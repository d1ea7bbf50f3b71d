-- THE HEADLINE, as a user meets it: what the status 0 of `check` and of `run` says of the files that are named.
use Rattle.std.specs.Prelude.{ℕ, ◌≡◌, ◌⊎◌, ◌++◌, List, Option, Some}
use Rattle.machines.specs.declared.arch.Arch.{Arch}
use Rattle.profile.specs.Policy.{Policy}
use Rattle.compare.specs.Behind.{MeansRight}
use Rattle.compare.specs.declared.behind_runc.stub.calls.Calls.{Calls}
use Rattle.aside.specs.declared.leave.Leave.{Leave}
use Rattle.aside.specs.Judged.{AreLeftOut, MeansRightBut}
use Rattle.cli.specs.Dispatch.{HaveBundles}
use Rattle.cli.specs.Files.{Folder, HasBundle, HasFilter}
use Rattle.cli.specs.Headline.{IsAnswerTo, IsRightFilter}

-- the bytes of one file are taken as a bundle, and those of the other are a filter that is right for it
pub record AreRight (folder : Option Folder) (native : Arch) (bundle filter : List ℕ) : Type 0 where
  pub b : List ℕ
  pub f : List ℕ
  pub bundle_has : HasBundle native folder bundle b
  pub filter_has : HasFilter native folder filter f
  pub policy : Policy
  pub right : IsRightFilter native b policy f

-- The bytes of one file are taken as a bundle. Those of the other are a filter that is right for it, but for the calls that a stub in
-- front of it answers. The bundle refuses these by its default, without a kill.
pub record AreRightBehind (folder : Option Folder) (native : Arch) (bundle filter : List ℕ) : Type 0 where
  pub b : List ℕ
  pub f : List ℕ
  pub bundle_has : HasBundle native folder bundle b
  pub filter_has : HasFilter native folder filter f
  pub answered : List Calls
  pub right : MeansRight native b f answered

-- The bytes of one file are taken as a bundle. Those of the other are a filter that is right for it, apart from some calls. A
-- stub in front of it answers them, or they are left aside, each with reason.
pub record AreRightBut (folder : Option Folder) (native : Arch) (bundle filter : List ℕ) (leave : Leave) : Type 0 where
  pub b : List ℕ
  pub f : List ℕ
  pub bundle_has : HasBundle native folder bundle b
  pub filter_has : HasFilter native folder filter f
  pub answered : List Calls
  pub aside : List Calls
  pub left : AreLeftOut native b f leave aside
  pub right : MeansRightBut native b f answered aside

-- one of the three
abbrev pub AreRightAtLeast : Option Folder → Arch → List ℕ → List ℕ → Leave → Type 0
AreRightAtLeast folder native bundle filter leave =
    AreRight folder native bundle filter
    ⊎ (AreRightBehind folder native bundle filter ⊎ AreRightBut folder native bundle filter leave)

-- The files are taken as bundles. If it is known what the input had and the output has, the script of the input was answered by a machine.
-- Its first judge for each container is the profile of the container's bundle.
pub record HasRun (folder : Option Folder) (native : Arch) (bundles : List (List ℕ)) (input out out' : Option (List ℕ)) : Type 0 where
  pub texts : List (List ℕ)
  pub have : HaveBundles native folder bundles texts
  pub answered : (script before after : List ℕ) → input ≡ Some script → out ≡ Some before → out' ≡ Some after
      → (answer : List ℕ) × (after ≡ before ++ answer) × IsAnswerTo native texts script answer
