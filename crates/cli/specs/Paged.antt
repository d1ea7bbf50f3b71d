-- What `review` tells with `html`: the page of one profile, or of two.
use Rattle.std.specs.Prelude.{ℕ, ◌≡◌, ◌⊎◌, true, false, List}
use Rattle.machines.specs.declared.arch.Arch.{Arch}
use Rattle.byte_order.specs.Turned.{read_as}
use Rattle.maker.specs.declared.export.form.Form.TheVariants.{Raw}
use Rattle.page.specs.Page.{Side, page_of_one, page_of_two}
use Rattle.review.specs.Reviewed.{IsReviewed}
use Rattle.show.specs.Shown.{IsDrawn}
use Rattle.wording.specs.Told.{TellsText, was_done}
use Rattle.wording.specs.declared.told.Told.{Told}
use Rattle.cli.specs.Compared.{TellsCompared}
use Rattle.cli.specs.Exported.{TellsExported}

-- what `draw` tells of the filter that `export` writes of a bundle, or why `export` writes none
pub record DrawsExport (native : Arch) (bundle : List ℕ) (graph : Told) : Type 0 where
  pub file : Told
  pub exported : TellsExported native Raw bundle file
  pub drawn : ((was_done file.end ≡ false) × (graph ≡ file))
      ⊎ ((was_done file.end ≡ true) × IsDrawn (read_as native file.bytes.items) graph)

-- what a page shows of a bundle
abbrev pub side_of : List ℕ → Told → Told → Side
side_of name review graph = record { name = name; review = review.bytes.items; graph = graph.bytes.items; is_drawn = was_done graph.end }

-- the page of a bundle of which this is told
pub record IsPaged (native : Arch) (name bundle : List ℕ) (review told : Told) : Type 0 where
  pub graph : Told
  pub drawn : DrawsExport native bundle graph
  pub text : TellsText (page_of_one (side_of name review graph)) told

-- the page of two, with what `compare` tells of them
pub record ArePaged (native : Arch) (old_name new_name old new : List ℕ) (first second told : Told) : Type 0 where
  pub compared : Told
  pub is_compared : TellsCompared false native old new compared
  pub old_graph : Told
  pub old_drawn : DrawsExport native old old_graph
  pub new_graph : Told
  pub new_drawn : DrawsExport native new new_graph
  pub text : TellsText (page_of_two (side_of old_name first old_graph) (side_of new_name second new_graph) compared.bytes.items) told

-- the bundle is refused, which is told as `review` tells it; or it was done, and the page is told
pub record TellsPage (native : Arch) (name bundle : List ℕ) (told : Told) : Type 0 where
  pub review : Told
  pub is_reviewed : IsReviewed native bundle review
  pub page : ((was_done review.end ≡ false) × (told ≡ review)) ⊎ ((was_done review.end ≡ true) × IsPaged native name bundle review told)

-- the same of two bundles: the first of them that is refused is told, and a page only if both were done
pub record TellsPages (native : Arch) (old_name new_name old new : List ℕ) (told : Told) : Type 0 where
  pub first : Told
  pub is_first : IsReviewed native old first
  pub second : Told
  pub is_second : IsReviewed native new second
  pub page : ((was_done first.end ≡ false) × (told ≡ first))
      ⊎ ((was_done first.end ≡ true) × (((was_done second.end ≡ false) × (told ≡ second))
      ⊎ ((was_done second.end ≡ true) × ArePaged native old_name new_name old new first second told)))
