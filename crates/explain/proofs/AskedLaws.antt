-- Which record a line of a script asks for.
use Rattle.std.proofs.Common.{◌≡◌, ◌≤◌, ◌<◌, ℕ, List, [], ◌∷◌, true, false, Bor, ap, arith, length, refl, slice_index_or, subst, sym}
use Rattle.std.specs.Prelude.{Option, None, Some, Result, IfOk, IfSome}
use Rattle.machines.specs.declared.arch.Arch.{Arch}
use Rattle.call_record.specs.declared.layout.Record.{Record}
use Rattle.script.specs.Commands.{Command, Create, Start, Delete, State, Kill, Call}
use Rattle.script.specs.Grammar.{LineIs}
use Rattle.script.specs.Laws.{OneCommand}
use Rattle.explain.specs.Asked.{IsAsked, IsByBytes, IsCall, IsOnLine, IsSpelled, are_bytes, called_by}
use Rattle.explain.specs.inner.Found.{IsRecordIn}

nothing : {X : Type 0} (x : X) → Some x ≡ None → ⊥
nothing x e = absurd (cc)

abbrev HasNoRecord : Option Command → Type 0
HasNoRecord (Some command) = IsRecordIn command None
HasNoRecord None = ⊥

module _ (native : Arch) (line : List ℕ) where
  pub on_line : (command : Command) (found : Option Record) → LineIs native line (Some command) → IsRecordIn command found
      → IfSome found (IsOnLine native line)
  on_line command None is h = tt
  on_line (Call id task arch nr args None) (Some r) is h =
      record { id = id; task = task; arch = arch; nr = nr; args = args; is_line = is; is_record = h }
  on_line (Call id task arch nr args (Some program)) (Some r) is h = absurd (nothing r h)
  on_line (Create id bundle) (Some r) is h = absurd (nothing r h)
  on_line (Start id) (Some r) is h = absurd (nothing r h)
  on_line (Delete id) (Some r) is h = absurd (nothing r h)
  on_line (State id) (Some r) is h = absurd (nothing r h)
  on_line (Kill id signal) (Some r) is h = absurd (nothing r h)

  pub not_on_line : OneCommand → (command : Command) (found : Option Record) → LineIs native line (Some command) → IsRecordIn command found
      → found ≡ None → (r : Record) → IsOnLine native line r → ⊥
  not_on_line one command found is h none r on =
      let same : Some command ≡ Some (Call on.id on.task on.arch on.nr on.args None) = one native line _ _ is on.is_line in
      subst HasNoRecord same (subst (IsRecordIn command) none h)

abbrev empty : Bor (List ℕ)
empty = record { ref_ptr = (0, 0); now = [] }

-- two arguments that spell a record
module _ (r : Record) where
  pub is_by_bytes : (given : List (Bor (List ℕ))) → 2 ≤ length given → length given < 3 → are_bytes given ≡ true
      → IsSpelled (slice_index_or given 1 empty).now r → IsByBytes given r
  is_by_bytes [] least most named h = absurd (omega arith)
  is_by_bytes (a ∷ []) least most named h = absurd (omega arith)
  is_by_bytes (a ∷ b ∷ []) least most named h = record { mark = a; digits = b; each = refl; named = named; spelled = h }
  is_by_bytes (a ∷ b ∷ c ∷ more) least most named h = absurd (omega arith)

  pub of_bytes : (given : List (Bor (List ℕ))) → IsByBytes given r → IsSpelled (slice_index_or given 1 empty).now r
  of_bytes given is = subst (λ (l : List (Bor (List ℕ))). IsSpelled (slice_index_or l 1 empty).now r) (sym is.each) is.spelled

  pub are_two : (given : List (Bor (List ℕ))) → IsByBytes given r → length given ≡ 2
  are_two given is = ap length is.each

pub each_by_bytes : (given : List (Bor (List ℕ))) (found : Option Record) → 2 ≤ length given → length given < 3 → are_bytes given ≡ true
    → IfSome found (IsSpelled (slice_index_or given 1 empty).now) → IfSome found (IsByBytes given)
each_by_bytes given None least most named h = tt
each_by_bytes given (Some r) least most named h = is_by_bytes r given least most named h

-- which arguments ask for a record, by what they are
module _ (native : Arch) (given : List (Bor (List ℕ))) where
  pub bytes_found : (found : Option Record) → are_bytes given ≡ true → IfSome found (IsByBytes given) → IfSome found (IsCall native given)
  bytes_found found e h = subst (λ b. IfSome found (called_by b native given)) (sym e) h

  pub bytes_none : (found : Option Record) → are_bytes given ≡ true → (found ≡ None → (r : Record) → IsByBytes given r → ⊥)
      → found ≡ None → (r : Record) → IsCall native given r → ⊥
  bytes_none found e h = subst (λ b. found ≡ None → (r : Record) → called_by b native given r → ⊥) (sym e) h

  pub asked_found : {E : Type 0} (o : Result (Option Record) E) → are_bytes given ≡ false
      → IfOk o (λ found. IfSome found (IsAsked native given)) → IfOk o (λ found. IfSome found (IsCall native given))
  asked_found o e h = subst (λ b. IfOk o (λ found. IfSome found (called_by b native given))) (sym e) h

  pub asked_none : {E : Type 0} (o : Result (Option Record) E) → are_bytes given ≡ false
      → IfOk o (λ found. found ≡ None → (r : Record) → IsAsked native given r → ⊥)
      → IfOk o (λ found. found ≡ None → (r : Record) → IsCall native given r → ⊥)
  asked_none o e h = subst (λ b. IfOk o (λ found. found ≡ None → (r : Record) → called_by b native given r → ⊥)) (sym e) h
