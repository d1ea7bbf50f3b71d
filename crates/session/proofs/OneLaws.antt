-- A script means one thing.
use Rattle.std.proofs.Common.{◌≡◌, ℕ, Bool, true, false, List, [], ◌∷◌, ◌++◌, refl, sym, ◌∙◌, ap, subst}
use Rattle.std.specs.Prelude.{◌==◌, not, Option, Some, None}
use Rattle.std.specs.List.{join_with_byte, list_all, onto_first, slice_split}
use Rattle.std.proofs.lemmas.Bool.{and_parts, eq-eqb}
use Rattle.std.proofs.lemmas.List.{append-nil}
use Rattle.std.proofs.lemmas.List.Splits.{slice_split-cons_no, slice_split-cons_yes}
use Rattle.call_record.specs.declared.layout.Record.{Record}
use Rattle.call_record.specs.Record.{words}
use Rattle.call_record.proofs.RecordLemmas.{same_from_words}
use Rattle.machines.specs.declared.arch.Arch.{Arch}
use Rattle.machines.specs.declared.arch.Family.{Family}
use Rattle.machines.specs.declared.arch.Family.TheVariants.{Chosen, Whole}
use Rattle.machines.specs.Arch.{family_of}
use Rattle.processes.specs.Attached.{beside_of}
use Rattle.processes.specs.declared.outcome.Response.{Response}
use Rattle.lifecycle.specs.Commands.{Command}
use Rattle.lifecycle.specs.Commands as command
use Rattle.texts.specs.Lines.{line_feed}
use Rattle.script.specs.Commands as script
use Rattle.script.specs.Grammar.{LineIs, lacks}
use Rattle.script.specs.Laws.{OneCommand}
use Rattle.script.specs.Lines.{lines_of}
use Rattle.session.specs.declared.bundles.Bundles.{Bundles}
use Rattle.session.specs.Commands.{CommandIs, CommandsAre, IsRecordOf, LineMeans, Means}
use Rattle.session.specs.Laws.{OneScript}
use Rattle.session.specs.Responses.{Parted}
use Rattle.session.proofs.ResponseLaws.{one_response}

-- a call has one record
same_words : (a b : Record) → a.nr ≡ b.nr → a.arch ≡ b.arch → a.ip ≡ b.ip → a.args ≡ b.args → words a ≡ words b
same_words a b nr arch ip args = cc

one_record : (arch : Arch) (nr : ℕ) (args : List ℕ) (a b : Record) → IsRecordOf arch nr args a → IsRecordOf arch nr args b → a ≡ b
one_record arch nr args a b h g =
    same_from_words a b (same_words a b (h.number ∙ sym g.number) (h.machine ∙ sym g.machine) (h.address
    ∙ sym g.address) (h.arguments ∙ sym g.arguments))

-- a command of a script means one command at most
one_meaning : (bundles : Bundles) (o : script.Command) (response : Option Response) (a b : Option Command) → Means bundles o response a
    → Means bundles o response b → a ≡ b
one_meaning bundles (script.Create id name) response a b h g = h ∙ sym g
one_meaning bundles (script.Start id) response a b h g = h ∙ sym g
one_meaning bundles (script.Delete id) response a b h g = h ∙ sym g
one_meaning bundles (script.State id) response a b h g = h ∙ sym g
one_meaning bundles (script.Kill id signal) response a b h g = h ∙ sym g
one_meaning bundles (script.Call id task arch nr args program) response a b h g =
    let same : h.0 ≡ g.0 = one_record arch nr args h.0 g.0 h.1 g.1 in
    h.2 ∙ (ap (λ (r : Record). Some (command.Call id task r (beside_of program response))) same ∙ sym g.2)

line_means_one : (bundles : Bundles) (o : Option script.Command) (response : Option Response) (a b : Option Command)
    → LineMeans bundles o response a → LineMeans bundles o response b → a ≡ b
line_means_one bundles None response a b h g = h ∙ sym g
line_means_one bundles (Some o) response a b h g = one_meaning bundles o response a b h g

-- a line has one response at most, and one call before it
one_parting : (family : Family) (line call other : List ℕ) (r s : Option Response) → Parted family line call r → Parted family line other s
    → (call ≡ other) × (r ≡ s)
one_parting Chosen line call other None None h g = (h ∙ sym g, refl)
one_parting Chosen line call other None (Some s) h g = absurd g
one_parting Chosen line call other (Some r) s h g = absurd h
one_parting Whole line call other None None h g = (h.0 ∙ sym g.0, refl)
one_parting Whole line call other None (Some s) h g = absurd (h.1 other s g)
one_parting Whole line call other (Some r) None h g = absurd (g.1 call r h)
one_parting Whole line call other (Some r) (Some s) h g = let same = one_response line call other r s h g in (same.0, ap Some same.1)

module _ (one : OneCommand) (bundles : Bundles) where
  -- a line is one command at most
  line_one : (line : List ℕ) (a b : Option Command) → CommandIs bundles line a → CommandIs bundles line b → a ≡ b
  line_one line a b h g =
      let parted = one_parting (family_of bundles.native) line h.call g.call h.response g.response h.parts g.parts in
      let is : LineIs bundles.native g.call h.asked = subst (λ (c : List ℕ). LineIs bundles.native c h.asked) parted.0 h.is in
      let asked : h.asked ≡ g.asked = one bundles.native g.call h.asked g.asked is g.is in
      let meant : LineMeans bundles g.asked h.response a =
      subst (λ (o : Option script.Command). LineMeans bundles o h.response a) asked h.meant in
      line_means_one bundles g.asked g.response a b (subst (λ (r : Option Response). LineMeans bundles g.asked r a) parted.1 meant) g.meant

  lines_one : (lines : List (List ℕ)) (a b : List (Option Command)) → CommandsAre bundles lines a → CommandsAre bundles lines b → a ≡ b
  lines_one [] [] [] h g = refl
  lines_one [] [] (y ∷ b) h g = absurd g
  lines_one [] (x ∷ a) b h g = absurd h
  lines_one (line ∷ lines) [] b h g = absurd h
  lines_one (line ∷ lines) (x ∷ a) [] h g = absurd g
  lines_one (line ∷ lines) (x ∷ a) (y ∷ b) h g =
      let same : x ≡ y = line_one line x y h.0 g.0 in
      let more : a ≡ b = lines_one lines a b h.1 g.1 in
      cc

-- A text has one list of lines.

abbrev cut : List ℕ → List (List ℕ)
cut text = slice_split (λ b. b == line_feed) text

other_byte : (t : Bool) → not t ≡ true → t ≡ false
other_byte true h = cc
other_byte false h = refl

-- bytes that are no line feed join the first line
cut-append : (xs ys first : List ℕ) (more : List (List ℕ)) → lacks line_feed xs ≡ true → cut ys ≡ first ∷ more
    → cut (xs ++ ys) ≡ (xs ++ first) ∷ more
cut-append [] ys first more h e = e
cut-append (x ∷ xs) ys first more h e =
    let parts = and_parts (not (x == line_feed)) (lacks line_feed xs) h in
    slice_split-cons_no (λ b. b == line_feed) x (xs ++ ys) (other_byte (x == line_feed) parts.0)
    ∙ ap (onto_first x) (cut-append xs ys first more parts.1 e)

cut-joined : (first : List ℕ) (more : List (List ℕ)) → list_all (lacks line_feed) (first ∷ more) ≡ true
    → cut (join_with_byte line_feed (first ∷ more)) ≡ first ∷ more
cut-joined first [] h =
    ap cut (sym (append-nil first))
    ∙ (cut-append first [] [] [] (and_parts (lacks line_feed first) true h).0 refl ∙ ap (λ t. t ∷ []) (append-nil first))
cut-joined first (next ∷ more) h =
    let parts = and_parts (lacks line_feed first) (list_all (lacks line_feed) (next ∷ more)) h in
    let rest = join_with_byte line_feed (next ∷ more) in
    cut-append first (line_feed ∷ rest) [] (cut rest) parts.0
    (slice_split-cons_yes (λ b. b == line_feed) line_feed rest (eq-eqb line_feed line_feed refl))
    ∙ (ap (λ t. t ∷ cut rest) (append-nil first) ∙ ap (λ t. first ∷ t) (cut-joined next more parts.1))

-- the lines of the parts
abbrev lines_in : List (List ℕ) → List (List ℕ)
lines_in [] = []
lines_in (first ∷ more) = lines_of first more

pub one_script : OneCommand → OneScript
one_script one bundles text a b h g =
    let left = cut-joined h.first h.more h.parts.each in
    let right = cut-joined g.first g.more g.parts.each in
    let same : h.first ∷ h.more ≡ g.first ∷ g.more = sym left ∙ (ap cut (sym h.parts.joined ∙ g.parts.joined) ∙ right) in
    let L : List (List ℕ) → Type 0 = λ lines. CommandsAre bundles lines a in
    lines_one one bundles (lines_of g.first g.more) a b (subst L (ap lines_in same) h.each) g.each
