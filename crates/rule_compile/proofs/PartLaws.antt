-- The parts in which questions are asked, as spans of them.
use Rattle.std.proofs.Common.{◌≡◌, ℕ, zero, suc, ◌+◌, ◌≤◌, true, List, [], ◌∷◌, ◌++◌, length, take, drop, refl, ap, sym, ◌∙◌, subst, arith, inl, inr}
use Rattle.std.proofs.Common.{append_assoc, length-append}
use Rattle.std.proofs.lemmas.List.{append-nil, drop_all, drop-append-le, length-take, take-append-drop, take-append-le, take_all}
use Rattle.rule_compile.specs.declared.asked.Open.{Open}
use Rattle.rule_compile.specs.declared.known.Span.{Span}
use Rattle.rule_compile.specs.declared.outline.Block.{Block}
use Rattle.rule_compile.specs.declared.outline.Part.{Part}
use Rattle.rule_compile.specs.declared.ranges.Leaf.{Leaf}
use Rattle.rule_compile.specs.Rules.{SomeMet, begins_here}
use Rattle.rule_compile.specs.inner.Left.{AreSame}
use Rattle.rule_compile.specs.inner.Noted.{AreBySpans, AreNoted, ArePartsOf, StandAmong}
use Rattle.rule_compile.specs.inner.Runs.{IsBefore}
use Rattle.rule_compile.specs.inner.Stands.{AreAmong, AreBlocks, AreSpans, HasMore, IsFound, part_of}
use Rattle.rule_compile.proofs.BlocksLaws.{spans_more}
use Rattle.rule_compile.proofs.RulesLaws.{are_same_back, begins_append, clear_same, met_left, met_right, met_same}

-- ---- questions that stand among others

module _ (os part : List Open) (start : ℕ) (stand : StandAmong os part start) where
  span_is : take (length part) (drop start os) ≡ part
  span_is =
      let b = stand.before in
      let rest = part ++ stand.behind in
      let at : length b ≡ start = stand.at in
      let dropped : drop start (b ++ rest) ≡ rest =
      ap (λ n. drop n (b ++ rest)) (sym at) ∙ drop-append-le (length b) b rest (omega arith)
      ∙ ap (λ xs. xs ++ rest) (drop_all (length b) b (omega arith)) in
      ap (λ xs. take (length part) (drop start xs)) stand.is ∙ ap (take (length part)) dropped
      ∙ take-append-le (length part) part stand.behind (omega arith) ∙ take_all (length part) part (omega arith)

  among : begins_here part ≡ true → AreAmong part os
  among begins r w met =
      let rest = part ++ stand.behind in
      subst (λ xs. SomeMet xs r w) (sym stand.is)
      (met_right stand.before rest r w (begins_append part stand.behind begins stand.begins)
      (met_left part stand.behind r w stand.begins met))

  pub one_span : (blocks : List Block) (other whole : Leaf) → begins_here part ≡ true → IsFound blocks part other whole
      → AreSpans blocks os other (record { start = start; count = length part; leaf = whole } ∷ []) whole
  one_span blocks other whole begins found = (
    subst (λ xs. IsFound blocks xs other whole) (sym span_is) found,
    subst (λ xs. AreAmong xs os) (sym span_is) (among begins),
    refl,
  )

  pub second_stands : (place : ℕ) → place ≤ length part → StandAmong os (drop place part) (start + place)
  second_stands place within = record {
    before = stand.before ++ take place part;
    behind = stand.behind;
    is =
        stand.is
        ∙ ap (λ xs. stand.before ++ (xs ++ stand.behind)) (sym (take-append-drop place part))
        ∙ ap (λ xs. stand.before ++ xs) (append_assoc (take place part) (drop place part) stand.behind)
        ∙ sym (append_assoc stand.before (take place part) (drop place part ++ stand.behind));
    at = omega (arith, length-append stand.before (take place part), stand.at, length-take place part, within);
    begins = stand.begins;
  }

  pub first_stands : (place : ℕ) → begins_here (drop place part) ≡ true → StandAmong os (take place part) start
  first_stands place begins = record {
    before = stand.before;
    behind = drop place part ++ stand.behind;
    is =
        stand.is
        ∙ ap (λ xs. stand.before ++ (xs ++ stand.behind)) (sym (take-append-drop place part))
        ∙ ap (λ xs. stand.before ++ xs) (append_assoc (take place part) (drop place part) stand.behind);
    at = stand.at;
    begins = begins_append (drop place part) stand.behind begins stand.begins;
  }

-- all of them
pub all_stand : (os : List Open) → StandAmong os os 0
all_stand os = record { before = []; behind = []; is = sym (append-nil os); at = refl; begins = refl }

-- ---- spans

pub spans_append : (blocks : List Block) (os : List Open) (other : Leaf) (spans more : List Span) (mid whole : Leaf)
    → AreSpans blocks os other spans mid → AreSpans blocks os mid more whole → AreSpans blocks os other (spans ++ more) whole
spans_append blocks os other [] more mid whole is next = subst (λ l. AreSpans blocks os l more whole) is next
spans_append blocks os other (span ∷ spans) more mid whole is next =
    (is.0, is.1, spans_append blocks os span.leaf spans more mid whole is.2 next)

-- one span more
pub one_noted : (blocks : List Block) (old new : List Span) (part : List Open) (start count : ℕ) (other whole : Leaf) → count ≡ length part
    → new ≡ old ++ record { start = start; count = count; leaf = whole } ∷ [] → begins_here part ≡ true → IsFound blocks part other whole
    → AreNoted blocks old new part start other whole
one_noted blocks old new part start count other whole counts is begins found =
    let span : ℕ → Span = λ n. record { start = start; count = n; leaf = whole } in
    record {
      more = span (length part) ∷ [];
      is = is ∙ ap (λ n. old ++ span n ∷ []) counts;
      spans = λ os stand. one_span os part start stand blocks other whole begins found;
    }

-- those of the second questions and then of the first
pub both_noted : (early late : List Block) (a b c : List Span) (part : List Open) (start place : ℕ) (other next whole : Leaf)
    → HasMore early late → AreBlocks late → IsBefore (length early) other → place ≤ length part → begins_here (drop place part) ≡ true
    → AreNoted early a b (drop place part) (start + place) other next → AreNoted late b c (take place part) start next whole
    → AreNoted late a c part start other whole
both_noted early late a b c part start place other next whole g blocks before within begins one two = record {
  more = one.more ++ two.more;
  is = two.is ∙ ap (λ xs. xs ++ two.more) one.is ∙ append_assoc a one.more two.more;
  spans = λ os stand.
      spans_append late os other one.more two.more next whole
      (spans_more early late g blocks os other one.more next before (one.spans os (second_stands os part start stand place within)))
      (two.spans os (first_stands os part start stand place begins));
}

-- those that there were
pub spans_kept : (old mid new : List Span) (count : ℕ) (more most : List Span) → mid ≡ old ++ more → new ≡ mid ++ most → count ≡ length old
    → take count new ≡ old
spans_kept old mid new count more most is next counts =
    ap (take count) (next ∙ ap (λ xs. xs ++ most) is ∙ append_assoc old more most)
    ∙ take-append-le count old (more ++ most) (omega (arith, counts)) ∙ take_all count old (omega (arith, counts))

-- the same questions, whoever asks them
same_take : (n : ℕ) (os ps : List Open) → AreSame os ps → AreSame (take n os) (take n ps)
same_take zero os ps same = tt
same_take (suc n) [] [] same = tt
same_take (suc n) [] (p ∷ ps) same = absurd same
same_take (suc n) (o ∷ os) [] same = absurd same
same_take (suc n) (o ∷ os) (p ∷ ps) same = (same.0, same_take n os ps same.1)

same_drop : (n : ℕ) (os ps : List Open) → AreSame os ps → AreSame (drop n os) (drop n ps)
same_drop zero os ps same = same
same_drop (suc n) [] [] same = tt
same_drop (suc n) [] (p ∷ ps) same = absurd same
same_drop (suc n) (o ∷ os) [] same = absurd same
same_drop (suc n) (o ∷ os) (p ∷ ps) same = same_drop n os ps same.1

found_same : (blocks : List Block) (os ps : List Open) (other to : Leaf) → AreSame os ps → IsFound blocks os other to → IsFound blocks ps other to
found_same blocks os ps other to same found =
    let back = are_same_back os ps same in
    record {
      before = found.before;
      stands = λ r rec clear v come.
          found.stands r rec (clear_same ps os r back clear) v
          (elim come [
            | inl met ↦ inl (met_same ps os r v back met)
            | inr none ↦ inr (λ w met. none.0 w (met_same os ps r w same met), none.1)
          ]);
    }

pub spans_same : (blocks : List Block) (os ps : List Open) (other : Leaf) (spans : List Span) (whole : Leaf) → AreSame os ps
    → AreSpans blocks os other spans whole → AreSpans blocks ps other spans whole
spans_same blocks os ps other [] whole same is = is
spans_same blocks os ps other (span ∷ spans) whole same is =
    let part = same_take span.count (drop span.start os) (drop span.start ps) (same_drop span.start os ps same) in
    let back = are_same_back (part_of os span) (part_of ps span) part in (
      found_same blocks (part_of os span) (part_of ps span) other span.leaf part is.0,
      λ r w met. met_same os ps r w same (is.1 r w (met_same (part_of ps span) (part_of os span) r w back met)),
      spans_same blocks os ps span.leaf spans whole same is.2,
    )

-- ---- parts by spans

pub by_spans_push : (os : List Open) (spans : List Span) (parts : List Part) (span : Span) (part : Part) → AreBySpans os spans parts
    → part.rules.items ≡ part_of os span → part.leaf ≡ span.leaf → AreBySpans os (spans ++ span ∷ []) (parts ++ part ∷ [])
by_spans_push os [] [] span part is rules leaf = (rules, leaf, tt)
by_spans_push os [] (p ∷ ps) span part is rules leaf = absurd is
by_spans_push os (s ∷ ss) [] span part is rules leaf = absurd is
by_spans_push os (s ∷ ss) (p ∷ ps) span part is rules leaf = (is.0, is.1, by_spans_push os ss ps span part is.2 rules leaf)

pub parts_by_spans : (blocks : List Block) (os : List Open) (other : Leaf) (spans : List Span) (parts : List Part) (whole : Leaf)
    → AreBySpans os spans parts → AreSpans blocks os other spans whole → ArePartsOf blocks os other parts whole
parts_by_spans blocks os other [] [] whole by is = is
parts_by_spans blocks os other [] (p ∷ ps) whole by is = absurd by
parts_by_spans blocks os other (s ∷ ss) [] whole by is = absurd by
parts_by_spans blocks os other (s ∷ ss) (p ∷ ps) whole by is =
    let rules : part_of os s ≡ p.rules.items = sym by.0 in
    let leaf : s.leaf ≡ p.leaf = sym by.1 in (
      subst (λ l. IsFound blocks p.rules.items other l) leaf (subst (λ xs. IsFound blocks xs other s.leaf) rules is.0),
      subst (λ xs. AreAmong xs os) rules is.1,
      parts_by_spans blocks os p.leaf ss ps whole by.2 (subst (λ l. AreSpans blocks os l ss whole) leaf is.2),
    )
