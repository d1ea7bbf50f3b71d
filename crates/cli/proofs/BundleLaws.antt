-- What is told of bundles, and bundles of files in turn.
use Rattle.std.proofs.Common.{◌≡◌, ℕ, ◌+◌, ◌<◌, inl, List, [], ◌∷◌, ◌++◌, ap, get_or, length, map, subst, sym, take, ◌∙◌}
use Rattle.std.proofs.lemmas.List.{map-append, take_more}
use denote.Ref.{Bor}
use Rattle.std.specs.Prelude.{Option, Result, Ok, Err}
use Rattle.machines.specs.declared.arch.Arch.{Arch}
use Rattle.wording.specs.declared.told.Told.{Told}
use Rattle.cli.specs.declared.stops.Stop.{Stop}
use Rattle.cli.specs.Dispatch.{FirstUnread, HaveBundles, HaveBytes, StopsAt}
use Rattle.cli.specs.Files.{Folder, HasBundle, HasDocument}
use Rattle.profile_json.specs.Document.{TextFor}
use Rattle.cli.specs.Told.{AreTakenAs, OfBundle, OfBundles, of_one, of_two}
use Rattle.cli.specs.inner.Telling.{IsToldOf, TellsText}
use Rattle.cli.proofs.DispatchLaws.{now_of, told_both, unread_at}

-- the bundle of one file is told of
pub told_bundle : (native : Arch) (folder : Option Folder) (name bundle : List ℕ) (Is : List ℕ → Told → Type 0)
    → HasBundle native folder name bundle → (told : Result Told Stop) → TellsText (Is bundle) told
    → IsToldOf folder (name ∷ []) (of_one (OfBundle native Is)) told
told_bundle native folder name bundle Is has (Ok told) h =
    (has.file ∷ [], (has.is, tt), record { bundle = bundle; taken = has.taken; is = h })
told_bundle native folder name bundle Is has (Err stop) h = subst (λ s. FirstUnread folder (name ∷ []) s) (sym h) (inl tt)

-- so is a bundle that was read for the machine
pub told_document : (native : Arch) (folder : Option Folder) (name : List ℕ) (document : TextFor) (Is : Arch → List ℕ → Told → Type 0)
    → HasDocument native folder name document → (told : Result Told Stop) → TellsText (Is document.native document.bytes) told
    → IsToldOf folder (name ∷ []) (of_one (OfBundle native (Is native))) told
told_document native folder name document Is has told h =
    told_bundle native folder name document.bytes (Is native) has.has told
    (subst (λ (n : Arch). TellsText (Is n document.bytes) told) has.machine h)

-- so are the bundles of two, of which the second one is read last
pub told_bundles : (native : Arch) (folder later : Option Folder) → later ≡ folder → (old new bundle : List ℕ)
    (Is : List ℕ → List ℕ → Told → Type 0) → HasBundle native folder old bundle → (told : Result Told Stop)
    → IsToldOf later (new ∷ []) (of_one (OfBundle native (Is bundle))) told
    → IsToldOf folder (old ∷ new ∷ []) (of_two (OfBundles native Is)) told
told_bundles native folder later same old new bundle Is has told h =
    told_both folder later same old new has.file (OfBundles native Is) has.is told (of told h) where
      of_first : (texts : List (List ℕ)) (t : Told) → of_one (OfBundle native (Is bundle)) texts t
          → of_one (OfBundles native Is has.file) texts t
      of_first [] t is = absurd is
      of_first (text ∷ []) t is = record { bundle = bundle; taken = has.taken; is = is }
      of_first (text ∷ other ∷ more) t is = absurd is

      of : (r : Result Told Stop) → IsToldOf later (new ∷ []) (of_one (OfBundle native (Is bundle))) r
          → IsToldOf later (new ∷ []) (of_one (OfBundles native Is has.file)) r
      of (Ok t) is = (is.0, is.1, of_first is.0 t is.2)
      of (Err stop) at = at

-- so are bundles that were read for one machine
pub told_documents : (native : Arch) (folder later : Option Folder) → later ≡ folder → (old new : List ℕ) (first : TextFor)
    (Is : Arch → List ℕ → List ℕ → Told → Type 0) → HasDocument native folder old first → (told : Result Told Stop)
    → IsToldOf later (new ∷ []) (of_one (OfBundle first.native (Is first.native first.bytes))) told
    → IsToldOf folder (old ∷ new ∷ []) (of_two (OfBundles native (Is native))) told
told_documents native folder later same old new first Is has told h =
    told_bundles native folder later same old new first.bytes (Is native) has.has told
    (subst (λ (n : Arch). IsToldOf later (new ∷ []) (of_one (OfBundle n (Is n first.bytes))) told) has.machine h)

-- so is one beside another file, which is read last
pub told_beside : (native : Arch) (folder later : Option Folder) → later ≡ folder → (old new bundle : List ℕ) (Is : List ℕ → Told → Type 0)
    → HasBundle native folder old bundle → (told : Result Told Stop) → IsToldOf later (new ∷ []) (of_one (λ text. Is bundle)) told
    → IsToldOf folder (old ∷ new ∷ []) (of_two (λ text other. OfBundle native Is text)) told
told_beside native folder later same old new bundle Is has told h =
    told_both folder later same old new has.file (λ text other. OfBundle native Is text) has.is told (of told h) where
      of_first : (texts : List (List ℕ)) (t : Told) → of_one (λ text. Is bundle) texts t
          → of_one (λ other. OfBundle native Is has.file) texts t
      of_first [] t is = absurd is
      of_first (text ∷ []) t is = record { bundle = bundle; taken = has.taken; is = is }
      of_first (text ∷ other ∷ more) t is = absurd is

      of : (r : Result Told Stop) → IsToldOf later (new ∷ []) (of_one (λ text. Is bundle)) r
          → IsToldOf later (new ∷ []) (of_one (λ other. OfBundle native Is has.file)) r
      of (Ok t) is = (is.0, is.1, of_first is.0 t is.2)
      of (Err stop) at = at

-- ---- files in turn

one_more_bundle : (native : Arch) (folder : Option Folder) (names texts : List (List ℕ)) (name text : List ℕ)
    → HaveBundles native folder names texts → HasBundle native folder name text
    → HaveBundles native folder (names ++ name ∷ []) (texts ++ text ∷ [])
one_more_bundle native folder [] [] name text h g = (g, tt)
one_more_bundle native folder [] (t ∷ ts) name text h g = absurd h
one_more_bundle native folder (n ∷ ns) [] name text h g = absurd h
one_more_bundle native folder (n ∷ ns) (t ∷ ts) name text h g = (h.0, one_more_bundle native folder ns ts name text h.1 g)

-- the bytes of the files
files_of : (native : Arch) (folder : Option Folder) (names texts : List (List ℕ)) → HaveBundles native folder names texts
    → (files : List (List ℕ)) × HaveBytes folder names files
files_of native folder [] [] h = ([], tt)
files_of native folder [] (t ∷ ts) h = absurd h
files_of native folder (n ∷ ns) [] h = absurd h
files_of native folder (n ∷ ns) (t ∷ ts) h =
    let rest = files_of native folder ns ts h.1 in (h.0.file ∷ rest.0, (h.0.is, rest.1))

-- the bytes of the files, and that they are taken as the bundles
pub taken_of : (native : Arch) (folder : Option Folder) (names texts : List (List ℕ)) → HaveBundles native folder names texts
    → (files : List (List ℕ)) × HaveBytes folder names files × AreTakenAs native files texts
taken_of native folder [] [] h = ([], tt, tt)
taken_of native folder [] (t ∷ ts) h = absurd h
taken_of native folder (n ∷ ns) [] h = absurd h
taken_of native folder (n ∷ ns) (t ∷ ts) h =
    let rest = taken_of native folder ns ts h.1 in (h.0.file ∷ rest.0, (h.0.is, rest.1), (h.0.taken, rest.2))

-- of a list of names, up to the one at a place
module _ (native : Arch) (folder later : Option Folder) (same : later ≡ folder) (ns : List (Bor (List ℕ))) (texts : List (List ℕ)) (i : ℕ)
    (d : Bor (List ℕ)) (lt : i < length ns) (so_far : HaveBundles native folder (map now_of (take i ns)) texts) where
  pub bundle_on : (text : List ℕ) (more : List (List ℕ)) → more ≡ texts ++ text ∷ [] → HasBundle native later (get_or ns i d).now text
      → HaveBundles native folder (map now_of (take (i + 1) ns)) more
  bundle_on text more pushed h =
      let n = get_or ns i d in
      let names : map now_of (take (i + 1) ns) ≡ map now_of (take i ns) ++ n.now ∷ [] =
      ap (map now_of) (take_more ns i d lt) ∙ map-append now_of (take i ns) (n ∷ []) in
      rw (names, pushed) (one_more_bundle native folder (map now_of (take i ns)) texts n.now text so_far
      (subst (λ f. HasBundle native f n.now text) same h))

  pub no_bundle_at : (stop : Stop) → StopsAt later (get_or ns i d).now stop → FirstUnread folder (map now_of ns) stop
  no_bundle_at stop h =
      let files = files_of native folder (map now_of (take i ns)) texts so_far in
      unread_at folder later same ns files.0 i d lt files.1 stop h
