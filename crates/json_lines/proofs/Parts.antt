-- The first part of a text.
use Rattle.std.proofs.Common.{◌≡◌, ◌≢◌, ℕ, suc, ◌+◌, ◌<◌, false, true, List, [], ◌∷◌, ◌++◌, length, length-append, append_assoc, get_or, take, drop, map}
use Rattle.std.proofs.Common.{refl, ap, sym, subst, arith, ◌∙◌}
use Rattle.std.proofs.lemmas.List.{drop_more, map-append, take-append-drop, take_more}
use Rattle.std.proofs.lemmas.Bool.{eq-eqb, ne_eqb}
use Rattle.std.specs.Prelude.{◌==◌, Option, Some, None, MatchOption}
use Rattle.std.specs.Option.{option_map}
use denote.Ref.{Bor}
use Rattle.texts.specs.Splits.{split_at}
use Rattle.texts.proofs.Splits.{Lacks, lacks_append, split_at_first, split_at_lacks, split_at_sound}
use Rattle.json_lines.specs.Lines.{in_front, parts_by}
use Rattle.json_lines.specs.inner.Views.{texts}

-- a part that is ended
pub part_ended : (end : ℕ) (part rest : List ℕ) → Lacks end part → parts_by end (part ++ end ∷ rest) ≡ part ∷ parts_by end rest
part_ended end [] rest h = let same : (end == end) ≡ true = eq-eqb end end refl in rw same refl
part_ended end (b ∷ part) rest h =
    let other : (b == end) ≡ false = ne_eqb b end h.0 in
    rw (other, part_ended end part rest h.1) refl

-- one that is not
pub part_left : (end b : ℕ) (part : List ℕ) → Lacks end (b ∷ part) → parts_by end (b ∷ part) ≡ (b ∷ part) ∷ []
part_left end b [] h = let other : (b == end) ≡ false = ne_eqb b end h.0 in rw other refl
part_left end b (d ∷ part) h =
    let other : (b == end) ≡ false = ne_eqb b end h.0 in
    let more : parts_by end (d ∷ part) ≡ (d ∷ part) ∷ [] = part_left end d part h.1 in
    rw other (ap (in_front b) more)

-- the parts of a text that is not empty, by where it is split
pub parts_split : (end : ℕ) (text : List ℕ) (o : Option (List ℕ × List ℕ)) → split_at end text ≡ o → text ≢ []
    → MatchOption o (parts_by end text ≡ text ∷ []) (λ p. parts_by end text ≡ p.0 ∷ parts_by end p.1)
parts_split end [] o e some = absurd (some refl)
parts_split end (b ∷ text) None e some = part_left end b text (split_at_lacks end (b ∷ text) e)
parts_split end (b ∷ text) (Some p) e some =
    let parts = split_at_sound end (b ∷ text) p e in
    ap (parts_by end) parts.0 ∙ part_ended end p.0 p.1 parts.1

pub shorter_split : (end : ℕ) (text : List ℕ) (p : List ℕ × List ℕ) → split_at end text ≡ Some p → length p.1 < length text
shorter_split end text p e =
    let parts = split_at_sound end text p e in
    omega (arith, ap length parts.0, length-append p.0 (end ∷ p.1))

pub none_split : (end : ℕ) (p : List ℕ × List ℕ) → split_at end [] ≡ Some p → (p.0 ≡ []) × (p.1 ≡ [])
none_split end p e = absurd (cc)

pub parts_some : (end : ℕ) (text : List ℕ) (p : List ℕ × List ℕ) → split_at end text ≡ Some p → parts_by end text ≡ p.0 ∷ parts_by end p.1
parts_some end [] p e = absurd (cc)
parts_some end (b ∷ text) p e = parts_split end (b ∷ text) (Some p) e (λ n. absurd (cc))

pub parts_none : (end : ℕ) (text : List ℕ) → split_at end text ≡ None → text ≢ [] → parts_by end text ≡ text ∷ []
parts_none end text e some = parts_split end text None e some

-- ---- the parts so far, in front of those that are left

pub parts_step : (end : ℕ) (all : List (List ℕ)) (items : List (Bor (List ℕ))) (line : Bor (List ℕ)) (more rest : List ℕ)
    → all ≡ texts items ++ parts_by end rest → split_at end rest ≡ Some (line.now, more)
    → all ≡ texts (items ++ line ∷ []) ++ parts_by end more
parts_step end all items line more rest h e =
    h ∙ ap (λ ls. texts items ++ ls) (parts_some end rest (line.now, more) e)
    ∙ sym (append_assoc (texts items) (line.now ∷ []) (parts_by end more))
    ∙ ap (λ ls. ls ++ parts_by end more) (sym (map-append (λ (l : Bor (List ℕ)). l.now) items (line ∷ [])))

pub parts_last : (end : ℕ) (all : List (List ℕ)) (items : List (Bor (List ℕ))) (rest : Bor (List ℕ))
    → all ≡ texts items ++ parts_by end rest.now → split_at end rest.now ≡ None → rest.now ≢ []
    → texts (items ++ rest ∷ []) ≡ all
parts_last end all items rest h e some =
    map-append (λ (l : Bor (List ℕ)). l.now) items (rest ∷ [])
    ∙ sym (h ∙ ap (λ ls. texts items ++ ls) (parts_none end rest.now e some))

-- ---- where a text is split

pub split_here : (byte : ℕ) (text : List ℕ) (at : ℕ) → at < length text → get_or text at 0 ≡ byte → Lacks byte (take at text)
    → split_at byte text ≡ Some (take at text, drop (at + 1) text)
split_here byte text at l is lacks =
    let parts : text ≡ take at text ++ (byte ∷ drop (at + 1) text) =
    sym (take-append-drop at text) ∙ ap (λ (t : List ℕ). take at text ++ t) (drop_more text at 0 l ∙ ap (λ b. b ∷ drop (at + 1) text) is) in
    ap (split_at byte) parts ∙ split_at_first byte (take at text) (drop (at + 1) text) lacks

pub lacks_more : (byte : ℕ) (text : List ℕ) (at : ℕ) → at < length text → get_or text at 0 ≢ byte → Lacks byte (take at text)
    → Lacks byte (take (at + 1) text)
lacks_more byte text at l other lacks =
    subst (Lacks byte) (sym (take_more text at 0 l)) (lacks_append byte (take at text) (get_or text at 0 ∷ []) lacks (other, tt))
