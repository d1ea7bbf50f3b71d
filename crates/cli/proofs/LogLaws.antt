-- Logs by their names and their texts, and the words that name them.
use Rattle.std.proofs.Common.{◌≡◌, ◌⊎◌, ℕ, ◌+◌, ◌<◌, List, [], ◌∷◌, ◌++◌, Vec, Global, ap, append-nil, arith, drop, get_or, inl, inr, length, map, refl, subst, suc, sym, take, ◌∙◌}
use Rattle.std.proofs.lemmas.List.{get_or_default, length-map, length-take-le, map-append, take_more}
use Rattle.std.specs.List.{zip}
use Rattle.std.specs.Io.KnownBytes.{Consumes, IsAtEnd}
use Rattle.std.specs.Prelude.{Bool, true, false, Option, None, Some, Result, Ok, Err}
use Rattle.machines.specs.declared.arch.Arch.{Arch}
use Rattle.wording.specs.declared.told.Told.{Told}
use Rattle.texts.specs.Failures.{Failures}
use Rattle.cli.specs.declared.adapting.OutputAndReport.{OutputAndReport}
use denote.Ref.{Bor}
use Rattle.strace_logs.specs.Given.{GivesAll}
use Rattle.strace_logs.specs.Logged.{parts_of}
use Rattle.strace_logs.specs.Replayed.{TellsReplayed}
use Rattle.strace_logs.specs.declared.logs.Log.{Log}
use Rattle.strace_logs.specs.declared.lists.Otherwise.{Otherwise}
use Rattle.strace_logs.specs.declared.lists.Runtime.{Runtime}
use Rattle.strace_logs.specs.declared.reading.Shown.{Shown}
use Rattle.strace_logs.specs.Taken.{HaveShown}
use Rattle.cli.specs.declared.stops.Stop.{Stop}
use Rattle.cli.specs.declared.stops.Stop.TheVariants.{Usage, CannotRead, Read, Write, OutOfMemory, Refused, Doubtful}
use Rattle.cli.specs.Dispatch.{AnswersBoth, AnswersFrom, AnswersLearn, AnswersLogs, AnswersNamed, AnswersWidened, FirstUnread, HaveBytes, StopsAtLog}
use Rattle.cli.specs.Dispatch.{StopsAtGroups, StopsForMemory}
use Rattle.cli.specs.Grouped.{groups_in, others_in}
use Rattle.cli.specs.Widened.{from_in, rest_of}
use Rattle.cli.specs.Files.{Folder, HasBundle, HasBytes, IsOpened}
use Rattle.cli.specs.Told.{IsReplayed}
use Rattle.cli.specs.inner.Telling.{GrowsTold, IsGrownLearnedOf, IsInForm, IsLearnedBundleOf, IsLearnedBy, IsLearnedFrom, IsLearnedOf, IsToldOf, IsWidenedFrom, IsWidenedOf, IsWithGroups, ShowEach, ShowsMore, StopsAtName, TellsOn, told_in}
use Rattle.cli.proofs.DispatchLaws.{behind, now_of, read_on}
use Rattle.cli.proofs.FormLaws.{stopped_grown, stopped_in}
use Rattle.cli.proofs.TurnLaws.{cut_at}

abbrev pub bytes_of : Vec ℕ Global → List ℕ
bytes_of t = t.items

abbrev part_of : Log → List ℕ × List ℕ
part_of log = (log.name.now, log.text.now)

-- one more of both
zip_more : {K X : Type 0} (ks : List K) (xs : List X) (k : K) (x : X) → length ks ≡ length xs
    → zip (ks ++ k ∷ []) (xs ++ x ∷ []) ≡ zip ks xs ++ (k, x) ∷ []
zip_more [] [] k x e = refl
zip_more [] (y ∷ xs) k x e = absurd (omega (arith, e))
zip_more (l ∷ ks) [] k x e = absurd (omega (arith, e))
zip_more (l ∷ ks) (y ∷ xs) k x e = ap (λ r. (l, y) ∷ r) (zip_more ks xs k x (omega (arith, e)))

-- the first ones of two lists, and one more
pub taken_with : {N T K X : Type 0} (name : N → K) (text : T → X) (ns : List N) (ts : List T) (i : ℕ) (n : N) (t : T)
    → length ns ≡ length ts → i < length ts → n ≡ get_or ns i n → t ≡ get_or ts i t
    → zip (map name (take i ns)) (map text (take i ts)) ++ (name n, text t) ∷ []
    ≡ zip (map name (take (i + 1) ns)) (map text (take (i + 1) ts))
taken_with name text ns ts i n t same lt en et =
    let names : map name (take (i + 1) ns) ≡ map name (take i ns) ++ name n ∷ [] =
    ap (map name) (take_more ns i n (omega (arith, same, lt)) ∙ ap (λ m. take i ns ++ m ∷ []) (sym en)) ∙ map-append name (take i ns) (n ∷ []) in
    let texts : map text (take (i + 1) ts) ≡ map text (take i ts) ++ text t ∷ [] =
    ap (map text) (take_more ts i t lt ∙ ap (λ m. take i ts ++ m ∷ []) (sym et)) ∙ map-append text (take i ts) (t ∷ []) in
    let sizes : length (map name (take i ns)) ≡ length (map text (take i ts)) =
    length-map (take i ns) name ∙ length-take-le i ns (omega (arith, same, lt))
    ∙ sym (length-map (take i ts) text ∙ length-take-le i ts (omega (arith, lt))) in
    rw (names, texts) (sym (zip_more (map name (take i ns)) (map text (take i ts)) (name n) (text t) sizes))

-- one more log
pub one_more_log : (names : List (Bor (List ℕ))) (texts : List (Vec ℕ Global)) (logs more : List Log) (i : ℕ) (d t : Bor (List ℕ))
    (v : Vec ℕ Global) → length names ≡ length texts → i < length texts
    → parts_of logs ≡ zip (map now_of (take i names)) (map bytes_of (take i texts))
    → more ≡ logs ++ record { name = get_or names i d; text = t } ∷ [] → t.now ≡ v.items → v ≡ get_or texts i v
    → parts_of more ≡ zip (map now_of (take (i + 1) names)) (map bytes_of (take (i + 1) texts))
one_more_log names texts logs more i d t v same lt so_far pushed text at =
    let n = get_or names i d in
    let l : Log = record { name = n; text = t } in
    ap parts_of pushed ∙ map-append part_of logs (l ∷ [])
    ∙ ap (λ p. p ++ (n.now, t.now) ∷ []) so_far
    ∙ ap (λ u. zip (map now_of (take i names)) (map bytes_of (take i texts)) ++ (n.now, u) ∷ []) text
    ∙ taken_with now_of bytes_of names texts i n v same lt (get_or_default names i d n (omega (arith, same, lt))) at

-- as many files are read as are named
pub as_many : (folder : Option Folder) (names texts : List (List ℕ)) → HaveBytes folder names texts → length names ≡ length texts
as_many folder [] [] h = refl
as_many folder [] (t ∷ ts) h = absurd h
as_many folder (n ∷ ns) [] h = absurd h
as_many folder (n ∷ ns) (t ∷ ts) h = ap suc (as_many folder ns ts h.1)

pub as_many_read : (folder : Option Folder) (names : List (Bor (List ℕ))) (texts : List (Vec ℕ Global))
    → HaveBytes folder (map now_of names) (map bytes_of texts) → length names ≡ length texts
as_many_read folder names texts h =
    sym (length-map names now_of) ∙ as_many folder (map now_of names) (map bytes_of texts) h ∙ length-map texts bytes_of

-- what is told of logs behind a bundle
pub told_behind : (folder later : Option Folder) → later ≡ folder → (native : Arch) (unused : Bool) (bundle text : List ℕ)
    (names : List (List ℕ)) → HasBundle native folder bundle text → (told : Result Told Stop)
    → IsToldOf later names (λ texts. TellsReplayed native unused text (zip names texts)) told
    → IsToldOf folder (bundle ∷ names) (IsReplayed native unused names) told
told_behind folder later same native unused bundle text names has (Ok told) (texts, have, is) =
    (has.file ∷ texts, (has.is, subst (λ d. HaveBytes d names texts) same have), record { bundle = text; taken = has.taken; is = is })
told_behind folder later same native unused bundle text names has (Err stop) h =
    behind folder bundle has.file names stop has.is (subst (λ d. FirstUnread d names stop) same h)

-- ---- logs that are learned from

-- a file that was opened has bytes
has_bytes : (folder : Option Folder) (name : List ℕ) (left : Option (List ℕ)) → IsOpened folder name left
    → (bytes : List ℕ) × HasBytes folder name bytes
has_bytes None name left opened = ([], tt)
has_bytes (Some f) name left opened = (opened.0, opened.1)

all_given : (bytes text : List ℕ) (new : Option (List ℕ)) → Consumes (Some bytes) new text → IsAtEnd new → bytes ≡ text
all_given bytes text None taken end = absurd taken
all_given bytes text (Some rest) taken end = taken ∙ ap (λ r. text ++ r) end ∙ append-nil text

-- they are what its source gives to its end
gives_bytes : (folder : Option Folder) (name : List ℕ) (left new : Option (List ℕ)) (text : List ℕ) → IsOpened folder name left
    → GivesAll left new text → HasBytes folder name text
gives_bytes None name left new text opened gives = tt
gives_bytes (Some f) name left new text opened gives =
    opened.1 ∙ ap Some (all_given opened.0 text new (subst (λ l. Consumes l new text) opened.2 gives.taken) gives.end)

-- one more log, which may lack a record
pub shown_more : (folder : Option Folder) (name : List ℕ) (left new : Option (List ℕ)) → IsOpened folder name left → (native : Arch)
    (texts : List (List ℕ)) (shown : Shown)
    → (shown.is_lacking ≡ false → (text : List ℕ) × GivesAll left new text × HaveShown native (texts ++ text ∷ []) shown)
    → ShowsMore folder native name texts shown
shown_more folder name left new opened native texts shown whole = by shown.is_lacking refl where
  by : (lacking : Bool) → shown.is_lacking ≡ lacking → ShowsMore folder native name texts shown
  by false e =
      let read = whole e in
      (read.0, gives_bytes folder name left new read.0 opened read.1, read.2)
  by true e =
      let some = has_bytes folder name left opened in
      (some.0, some.1, λ no. cc)

-- the logs up to one more
pub each_more : (folder later : Option Folder) → later ≡ folder → (native : Arch) (ns : List (Bor (List ℕ))) (i : ℕ) (d : Bor (List ℕ))
    → i < length ns → (old new : Shown) → ShowEach folder native (map now_of (take i ns)) old
    → ((texts : List (List ℕ)) → HaveShown native texts old → ShowsMore later native (get_or ns i d).now texts new)
    → ShowEach folder native (map now_of (take (i + 1) ns)) new
each_more folder later same native ns i d lt old new (texts, read, have) more =
    let m = more texts have in
    (texts ++ m.0 ∷ [], read_on folder later same ns texts i d lt read m.0 (texts ++ m.0 ∷ []) refl m.1, m.2)

-- the program stops at one of them
pub stops_at_log : (folder : Option Folder) (native : Arch) (ns : List (Bor (List ℕ))) (i : ℕ) (d : Bor (List ℕ)) → i < length ns
    → (shown : Shown) → ShowEach folder native (map now_of (take i ns)) shown → (stop : Stop) → StopsAtName (get_or ns i d).now stop
    → StopsAtLog folder (map now_of ns) stop
stops_at_log folder native ns i d lt shown (texts, read, have) (CannotRead told) at =
    let n = get_or ns i d in record {
      before = map now_of (take i ns);
      after = map now_of (drop (i + 1) ns);
      split =
          ap (map now_of) (cut_at ns i n lt (get_or_default ns i d n lt)) ∙ map-append now_of (take i ns) (n ∷ drop (i + 1) ns)
          ∙ ap (λ m. map now_of (take i ns) ++ m ∷ map now_of (drop (i + 1) ns)) (sym at);
      texts = texts;
      read = read;
    }
stops_at_log folder native ns i d lt shown each OutOfMemory at = tt
stops_at_log folder native ns i d lt shown each Usage at = absurd at
stops_at_log folder native ns i d lt shown each (Read line) at = absurd at
stops_at_log folder native ns i d lt shown each (Write out) at = absurd at
stops_at_log folder native ns i d lt shown each Refused at = absurd at
stops_at_log folder native ns i d lt shown each Doubtful at = absurd at

-- what is told of them is written
module _ {O : Type 0} (held : O → Option (List ℕ)) (failures : O → Failures) (folder : Option Folder) (old new : O) (native : Arch)
    (result : Result Bool Stop) where
  answers_logs : (as_bundle : Bool) (groups logs : List (List ℕ)) (runtime : Option Runtime) (otherwise : Otherwise)
      (made grown told : Result Told Stop) → IsLearnedFrom folder native logs runtime otherwise made → GrowsTold native groups made grown
      → IsInForm native as_bundle grown told → TellsOn held failures old new told result
      → AnswersLogs held failures folder old new native as_bundle groups logs runtime otherwise result
  answers_logs as_bundle groups logs runtime otherwise (Ok made) (Ok grown) (Ok told) is grows form h =
      inr (is.0, told, is.1, record { made = grown; is = (made, is.2, grows); written = form }, h)
  answers_logs as_bundle groups logs runtime otherwise (Ok made) (Ok grown) (Err stop) is grows form h =
      inl (stop, subst (λ s. StopsAtLog folder logs s) (sym form) tt, h.0, h.1)
  answers_logs as_bundle groups logs runtime otherwise (Ok made) (Err stop) told is grows form h =
      let stopped = subst (λ t. TellsOn held failures old new t result) form h in
      inl (stop, subst (λ s. StopsAtLog folder logs s) (sym grows) tt, stopped.0, stopped.1)
  answers_logs as_bundle groups logs runtime otherwise (Err stop) grown told at grows form h =
      let stopped = subst (λ t. TellsOn held failures old new t result) (stopped_in native as_bundle grown told stop grows form) h in
      inl (stop, at, stopped.0, stopped.1)

  answers_named : (as_bundle : Bool) (groups words : List (List ℕ)) (made grown told : Result Told Stop)
      → IsLearnedBundleOf folder native words made → GrowsTold native groups made grown → IsInForm native as_bundle grown told
      → TellsOn held failures old new told result → AnswersNamed held failures folder old new native as_bundle groups words result
  answers_named as_bundle groups words made grown told (inl is) grows form h =
      inl (subst (λ t. TellsOn held failures old new t result)
      (stopped_in native as_bundle grown told Usage (stopped_grown native groups made grown Usage is grows) form) h)
  answers_named as_bundle groups words made grown told (inr (inl is)) grows form h =
      inr (inl (subst (λ t. TellsOn held failures old new t result)
      (stopped_in native as_bundle grown told OutOfMemory (stopped_grown native groups made grown OutOfMemory is grows) form) h))
  answers_named as_bundle groups words made grown told (inr (inr (logs, runtime, otherwise, asks, is))) grows form h =
      inr (inr (logs, runtime, otherwise, asks, answers_logs as_bundle groups logs runtime otherwise made grown told is grows form h))

  answers_both : (as_bundle : Bool) (groups : List (List ℕ)) (profile : List ℕ) (logs : List (List ℕ)) (runtime : Option Runtime)
      (otherwise : Otherwise) (made grown told : Result Told Stop) → IsWidenedFrom folder native profile logs runtime otherwise made
      → GrowsTold native groups made grown → IsInForm native as_bundle grown told → TellsOn held failures old new told result
      → AnswersBoth held failures folder old new native as_bundle groups profile logs runtime otherwise result
  answers_both as_bundle groups profile logs runtime otherwise (Ok made) (Ok grown) (Ok told) (file, texts, of_file, of_logs, is) grows form h =
      inr (file, texts, told, of_file, of_logs, record { made = grown; is = (made, is, grows); written = form }, h)
  answers_both as_bundle groups profile logs runtime otherwise (Ok made) (Ok grown) (Err stop) is grows form h =
      inl (stop, inr (subst (λ s. StopsAtLog folder logs s) (sym form) tt), h.0, h.1)
  answers_both as_bundle groups profile logs runtime otherwise (Ok made) (Err stop) told is grows form h =
      let stopped = subst (λ t. TellsOn held failures old new t result) form h in
      inl (stop, inr (subst (λ s. StopsAtLog folder logs s) (sym grows) tt), stopped.0, stopped.1)
  answers_both as_bundle groups profile logs runtime otherwise (Err stop) grown told at grows form h =
      let stopped = subst (λ t. TellsOn held failures old new t result) (stopped_in native as_bundle grown told stop grows form) h in
      inl (stop, at, stopped.0, stopped.1)

  answers_widened : (as_bundle : Bool) (groups : List (List ℕ)) (profile : List ℕ) (words : List (List ℕ)) (made grown told : Result Told Stop)
      → IsWidenedOf folder native profile words made → GrowsTold native groups made grown → IsInForm native as_bundle grown told
      → TellsOn held failures old new told result
      → AnswersWidened held failures folder old new native as_bundle groups profile words result
  answers_widened as_bundle groups profile words made grown told (inl is) grows form h =
      inl (subst (λ t. TellsOn held failures old new t result)
      (stopped_in native as_bundle grown told Usage (stopped_grown native groups made grown Usage is grows) form) h)
  answers_widened as_bundle groups profile words made grown told (inr (inl is)) grows form h =
      inr (inl (subst (λ t. TellsOn held failures old new t result)
      (stopped_in native as_bundle grown told OutOfMemory (stopped_grown native groups made grown OutOfMemory is grows) form) h))
  answers_widened as_bundle groups profile words made grown told (inr (inr (logs, runtime, otherwise, asks, is))) grows form h =
      inr (inr (
        logs,
        runtime,
        otherwise,
        asks,
        answers_both as_bundle groups profile logs runtime (rest_of words otherwise) made grown told is grows form h,
      ))

  answers_from : (as_bundle : Bool) (groups : List (List ℕ)) (from : Option (List ℕ × List (List ℕ))) (words : List (List ℕ))
      (made grown told : Result Told Stop) → IsLearnedBy folder native from words made → GrowsTold native groups made grown
      → IsInForm native as_bundle grown told → TellsOn held failures old new told result
      → AnswersFrom held failures folder old new native as_bundle groups from words result
  answers_from as_bundle groups (Some from) words made grown told is grows form h =
      answers_widened as_bundle groups from.0 from.1 made grown told is grows form h
  answers_from as_bundle groups None words made grown told is grows form h = answers_named as_bundle groups words made grown told is grows form h

  pub answers_learned : (words : List (List ℕ)) (both : Result OutputAndReport Stop) → IsLearnedOf folder native words (told_in both)
      → TellsOn held failures old new (told_in both) result → AnswersLearn held failures folder old new native words result
  answers_learned words both is h = (is.others, is.as_bundle, is.named, by is.grows) where
    by : IsWithGroups native (groups_in is.others) is.made is.grown
        → StopsAtGroups held failures folder old new is.others result
        ⊎ (StopsForMemory held failures folder old new result
        ⊎ AnswersFrom held failures folder old new native is.as_bundle (groups_in is.others) (from_in (others_in is.others))
        (others_in is.others) result)
    by (inl unknown) =
        inl (
          unknown.0,
          subst (λ t. TellsOn held failures old new t result)
              (stopped_in native is.as_bundle is.grown (told_in both) Usage unknown.1 is.written) h,
        )
    by (inr (inl memory)) =
        inr (inl (subst (λ t. TellsOn held failures old new t result)
        (stopped_in native is.as_bundle is.grown (told_in both) OutOfMemory memory is.written) h))
    by (inr (inr grows)) =
        inr (inr (answers_from is.as_bundle (groups_in is.others) (from_in (others_in is.others)) (others_in is.others) is.made is.grown
        (told_in both) is.is_made grows.1 is.written h))

-- memory is refused before the words are read
pub learned_memory : (folder : Option Folder) (native : Arch) (words : List (List ℕ)) → IsGrownLearnedOf folder native words (Err OutOfMemory)
learned_memory folder native words = (Err OutOfMemory, by (from_in (others_in words)), inr (inl refl)) where
  by : (from : Option (List ℕ × List (List ℕ))) → IsLearnedBy folder native from (others_in words) (Err OutOfMemory)
  by (Some from) = inr (inl refl)
  by None = inr (inl refl)
