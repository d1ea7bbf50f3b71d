-- Where the rules of a list stand by machine and number. Each call has the greatest place of a rule for it, and each
-- place the next less one for the same call.
use Rattle.std.specs.Prelude.{◌≡◌, ℕ, List, length, Option, Some, None, slice_get, slice_index_or}
use Rattle.std.specs.declared.cmp.Ordering.{Ordering}
use Rattle.std.specs.Ordering.{nat_cmp, ordering_then}
use Rattle.std.specs.BTreeMap.{get}
use Rattle.machines.specs.Arch.{token_of}
use Rattle.profile.specs.declared.rules.Rule.{Rule}
use Rattle.profile.specs.declared.index.Index.{Index}
use Rattle.profile.specs.Latest.{IsLatest}

abbrev pub call_cmp : ℕ × ℕ → ℕ × ℕ → Ordering
call_cmp x y = ordering_then (nat_cmp x.0 y.0) (nat_cmp x.1 y.1)

abbrev pub latest_of : Index → ℕ → ℕ → Option ℕ
latest_of index token nr = get call_cmp index.latest (token, nr)

abbrev pub earlier_of : Index → ℕ → Option ℕ
earlier_of index place = slice_index_or index.earlier.items place None

-- the index tells of each call its greatest place, and of each place the next less one for its call
pub record IsIndexOf (rules : List Rule) (index : Index) : Type 0 where
  pub as_many : length index.earlier.items ≡ length rules
  pub latest : (token nr : ℕ) → IsLatest rules token nr (length rules) (latest_of index token nr)
  pub earlier : (k : ℕ) (rule : Rule) → slice_get rules k ≡ Some rule
      → IsLatest rules (token_of rule.arch) rule.nr k (earlier_of index k)
