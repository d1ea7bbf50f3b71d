-- What is read of a file that is long enough is as long in the machine's order of bytes.
use Rattle.std.proofs.Common.{◌≡◌, ℕ, List, [], ◌∷◌, ap, length, refl, subst, sym, ◌∙◌, arith}
use Rattle.std.specs.Prelude.{Option}
use Rattle.machines.specs.declared.arch.Arch.{Arch}
use Rattle.byte_order.specs.Turned.{read_as}
use Rattle.byte_order.proofs.ReadLaws.{length_read, split_read}
use Rattle.cli.specs.Files.{Folder, HasEnough, HasEnoughFilter, IsEnough}

no_more : (rest more : List ℕ) → rest ≡ [] → length more ≡ length rest → more ≡ []
no_more rest [] e same = refl
no_more rest (b ∷ more) e same = absurd (omega (arith, same, ap length e))

enough_in : (native : Arch) (most : ℕ) (file bytes : List ℕ) → IsEnough most file bytes → IsEnough most (read_as native file) (read_as native bytes)
enough_in native most file bytes enough =
    let (more, split, long) = split_read native bytes enough.rest enough.eights in
    record {
      rest = more;
      split = ap (read_as native) enough.split ∙ split;
      whole = λ few. no_more enough.rest more (enough.whole (omega (arith, few, length_read native bytes))) long;
      eights = omega (arith, enough.eights, long);
    }

pub enough_read : (native : Arch) (folder : Option Folder) (name bytes filter : List ℕ) → HasEnough 32768 folder name bytes
    → filter ≡ read_as native bytes → HasEnoughFilter native folder name filter
enough_read native folder name bytes filter h is = record {
  filter = read_as native h.file;
  has = record { file = h.file; is = h.is; read = refl };
  enough = subst (λ f. IsEnough 32768 (read_as native h.file) f) (sym is) (enough_in native 32768 h.file bytes h.enough);
}
