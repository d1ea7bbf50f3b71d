-- The paths of a filter of calls, for a profile without conditions: what is known at a place, and how many nodes it takes.
use Rattle.std.specs.Prelude.{◌≡◌, ℕ, ◌+◌, ◌-◌, ◌^◌, ◌<◌, ◌≤◌, ◌⊎◌, ⊤, List, [], ◌∷◌, ◌++◌, All, Any, Option, Some, None, Contains}
use Rattle.std.specs.Prelude.{length, slice_get}
use Rattle.machines.specs.declared.arch.Arch.{Arch}
use Rattle.machines.specs.Arch.{token_of}
use Rattle.machines.specs.Numbers.{IsWithin, foreign_numbers}
use Rattle.bpf_insn.specs.declared.code.Operation.TheVariants.{ReturnK}
use Rattle.bpf_insn.specs.declared.instruction.Insn.{Insn}
use Rattle.bpf_insn.specs.Code.{operation_of}
use Rattle.profile.specs.Policy.{Policy, IsProfile}
use Rattle.rule_compile.specs.Shape.{IsPlain, above_all_numbers, depth}
use Rattle.cert_state.specs.declared.literal.AVal.{AVal}
use Rattle.cert_state.specs.declared.literal.AVal.TheVariants.{Const, Masked}
use Rattle.cert_state.specs.declared.literal.Lit.{Lit}
use Rattle.cert_state.specs.declared.literal.Regs.{Regs}
use Rattle.cert_state.specs.Literals.{all_bits}
use Rattle.cert_state.specs.Points.{IsPoint}
use Rattle.cert_state.specs.Entailment.{IsDead}
use Rattle.cert_form.specs.Spelling.{nothing_stated}
use Rattle.cert_check.specs.Agree.{Agrees}
use Rattle.certify.specs.declared.paths.Paths.{Paths}
use Rattle.certify.specs.declared.place.Place.{Place}
use Rattle.certify.specs.inner.Counts.{halves_cost, inside, path_cost, return_cost}
use Rattle.certify.specs.inner.Follow.{AreTwo}
use Rattle.certify.specs.inner.Leaf.{IsOfCalls, SaysThere}
use Rattle.certify.specs.inner.Path.{AnswersThere, HoldsCall}
use Rattle.certify.specs.inner.Places.{known_at}

-- what is known of the registers where A holds this word of the record, or still is 0
abbrev pub regs_of : Option ℕ → Regs
regs_of None = record { a = Const 0; x = Const 0; scratch = nothing_stated }
regs_of (Some w) = record { a = Masked w all_bits; x = Const 0; scratch = nothing_stated }

-- of A a number is known, or that it holds a whole word of the record
abbrev pub IsWhole : AVal → Type 0
IsWhole (Masked w m) = m ≡ all_bits
IsWhole (Const c) = ⊤
IsWhole _ = ⊥

-- ---- a return

-- no machine before this place of the list is possible
abbrev pub AreOutBefore : Policy → List Lit → ℕ → Type 0
AreOutBefore policy known n =
    (k : ℕ) (arch : Arch) → k < n → slice_get policy.machines k ≡ Some arch → IsPoint known 1 (token_of arch) → ⊥

-- no other token is possible
abbrev pub IsOnlyToken : List Lit → Arch → Type 0
IsOnlyToken known arch = (t : ℕ) → IsPoint known 1 t → t ≡ token_of arch

-- all numbers that are possible are foreign
abbrev pub AreForeign : Policy → List Lit → Arch → Type 0
AreForeign policy known arch = (u : ℕ) → IsPoint known 0 u → Any (IsWithin u) (foreign_numbers policy.machines arch)

-- they are small, and no two are so far from each other
abbrev pub AreNear : List Lit → ℕ → Type 0
AreNear known distance = (u w : ℕ) → IsPoint known 0 u → IsPoint known 0 w → (w < u + distance) × (w < above_all_numbers)

-- so many halvings are left, at first 10, that the numbers come apart where they have to
abbrev pub IsEnough : Policy → List Lit → Arch → ℕ → Type 0
IsEnough policy known arch halvings =
    (halvings ≡ 10) ⊎ (AreForeign policy known arch ⊎ ((halvings < 10) × AreNear known (2 ^ halvings)))

-- machines are told apart, those before a place of the list are out: so many nodes, and so many literals more at most
pub record HasTokens (policy : Policy) (known : List Lit) (nodes literals : ℕ) : Type 0 where
  pub at : ℕ
  pub few : at ≤ length policy.machines
  pub out : AreOutBefore policy known at
  pub cost : return_cost policy.machines at (inside above_all_numbers policy.machines known) ≤ nodes
  pub height : length policy.machines - at + 10 ≤ literals

-- the numbers of one machine's calls are told apart
pub record HasNumbers (policy : Policy) (known : List Lit) (nodes literals : ℕ) : Type 0 where
  pub arch : Arch
  pub listed : Contains policy.machines arch
  pub only : IsOnlyToken known arch
  pub halvings : ℕ
  pub enough : IsEnough policy known arch halvings
  pub cost : halves_cost halvings (inside above_all_numbers policy.machines known) ≤ nodes
  pub height : halvings ≤ literals

-- a return of a verdict, which the profile says of each call that is possible, takes so many nodes at most
pub record TakesAtReturn (policy : Policy) (known : List Lit) (word nodes : ℕ) : Type 0 where
  pub of_calls : All IsOfCalls known
  pub says : SaysThere policy known word
  pub literals : ℕ
  pub short : length known + literals ≤ 512
  pub some : 1 ≤ nodes
  pub stage : HasTokens policy known nodes literals ⊎ HasNumbers policy known nodes literals

-- so do both parts together, with the node that parts them
pub record PartsAtReturn (policy : Policy) (known : List Lit) (word nodes : ℕ) (one other : Lit) : Type 0 where
  pub first : ℕ
  pub second : ℕ
  pub first_takes : TakesAtReturn policy (one ∷ known) word first
  pub second_takes : TakesAtReturn policy (other ∷ known) word second
  pub enough : first + second + 1 ≤ nodes

-- ---- any place

-- the filter answers from there on what the profile says
pub record TakesOnPath (policy : Policy) (p : List Insn) (pc : ℕ) (regs : Regs) (known : List Lit) (nodes : ℕ) : Type 0 where
  pub held : Option ℕ
  pub regs_are : regs ≡ regs_of held
  pub of : HoldsCall held
  pub answers : AnswersThere policy p pc held known
  pub of_calls : All IsOfCalls known
  pub short : length known + depth p pc + 20 ≤ 512
  pub cost : path_cost p pc (inside above_all_numbers policy.machines known) ≤ nodes

-- a return that was cut
pub record TakesOfReturn (policy : Policy) (p : List Insn) (pc : ℕ) (known : List Lit) (nodes : ℕ) : Type 0 where
  pub insn : Insn
  pub found : slice_get p pc ≡ Some insn
  pub returns : operation_of insn.code ≡ Some ReturnK
  pub takes : TakesAtReturn policy known insn.k nodes

-- a place takes so many nodes at most, its own among them
abbrev pub Takes : Policy → List Insn → ℕ → Regs → List Lit → ℕ → Type 0
Takes policy p pc regs known nodes = TakesOnPath policy p pc regs known nodes ⊎ TakesOfReturn policy p pc known nodes

abbrev pub TakesAt : Policy → List Insn → List (ℕ × Lit) → Place → ℕ → Type 0
TakesAt policy p es place nodes = Takes policy p place.pc place.regs (known_at es place) nodes

-- these places take so many nodes together at most
abbrev pub AllTake : Policy → List Insn → List (ℕ × Lit) → List Place → ℕ → Type 0
AllTake policy p es [] total = ⊤
AllTake policy p es (place ∷ places) total =
    (nodes : ℕ) × (rest : ℕ) × (1 ≤ nodes) × (nodes + rest ≤ total) × TakesAt policy p es place nodes × AllTake policy p es places rest

-- the places that were added take no more than a place took before, with its own node
pub record AreShares (policy : Policy) (p : List Insn) (old new : Paths) (nodes : ℕ) : Type 0 where
  pub more : List Place
  pub places : new.places.items ≡ old.places.items ++ more
  pub total : ℕ
  pub each : AllTake policy p new.entries.items more total
  pub enough : total + 1 ≤ nodes

-- the places that have no node yet take no more than fits into a certificate
pub record HaveRoom (policy : Policy) (p : List Insn) (paths : Paths) : Type 0 where
  pub done : List Place
  pub waiting : List Place
  pub places : paths.places.items ≡ done ++ waiting
  pub many : length done ≡ length paths.kinds.items
  pub total : ℕ
  pub each : AllTake policy p paths.entries.items waiting total
  pub few : length done + total ≤ 16384

-- ---- what has to be told apart

-- a return that is not settled, of a profile without conditions, whose rules do not agree yet
pub record IsUnsettled (policy : Policy) (known : List Lit) (word nodes : ℕ) : Type 0 where
  pub profile : IsProfile policy
  pub plain : IsPlain policy
  pub takes : TakesAtReturn policy known word nodes
  pub alive : IsDead known → ⊥
  pub unsettled : Agrees policy [] [] known word → ⊥

-- two places were added at the return, which take no more together
pub record IsParted (policy : Policy) (old new : Paths) (from : Place) (word nodes : ℕ) : Type 0 where
  pub one : Lit
  pub other : Lit
  pub first : ℕ
  pub second : ℕ
  pub two : AreTwo old new from (record { pc = from.pc; regs = from.regs; learned = Some one })
      (record { pc = from.pc; regs = from.regs; learned = Some other }) first second
  pub parts : PartsAtReturn policy (known_at old.entries.items from) word nodes one other
