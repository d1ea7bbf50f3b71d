use Rattle.std.proofs.Common.{◌≡◌, ◌∙◌, ◌++◌, ◌<◌, ap, length, refl, rules, subst, sym, vec_len}
use Rattle.std.specs.List.{All}
use Rattle.rule_compile.specs.inner.Runs.{IsBefore}
use Rattle.rule_compile.specs.inner.Noted.{AreBySpans, ArePartsOf}
use Rattle.rule_compile.specs.inner.Stands.{AreSpans, DecidesFor, KnownStands}
use Rattle.rule_compile.proofs.DecidesLaws.{before_more}
use Rattle.rule_compile.proofs.PartLaws.{all_stand, parts_by_spans, spans_same}
use Rattle.rule_compile.proofs.StandsLaws.{known_found, known_sound}
use Rattle.rule_compile.proofs.blocks.Blocks.asked.Goals as goal

pub returns-then-is_of-clause-found : goal.returns-then-is_of-clause-found
returns-then-is_of-clause-found c =
    let bs = c.args.self.now.blocks.items in
    let within : c.loop-known.known-index < length c.deref-known-items.result.now = search rules in
    let sound = c.requires.sound in
    let all : All (KnownStands bs) c.deref-known-items.result.now =
    subst (All (KnownStands bs)) (sym c.deref-known-items.ensures.value) sound.known in
    let stands : KnownStands bs c.known-item.result =
    subst (KnownStands bs) (sym c.known-item.is) (all c.loop-known.known-index c.known-item.result within) in
    let alike = c.is_of.ensures c.if-is_of.true in
    known_found bs c.known-item.result c.args.rules.now c.args.other.now stands alike.0 alike.1

pub returns-then-is_of-clause-parts : goal.returns-then-is_of-clause-parts
returns-then-is_of-clause-parts c =
    let bs = c.args.self.now.blocks.items in
    let os = c.args.rules.now in
    let other = c.args.other.now in
    let known = c.known-item.result in
    let within : c.loop-known.known-index < length c.deref-known-items.result.now = search rules in
    let sound = c.requires.sound in
    let all : All (KnownStands bs) c.deref-known-items.result.now =
    subst (All (KnownStands bs)) (sym c.deref-known-items.ensures.value) sound.known in
    let stands : KnownStands bs known =
    subst (KnownStands bs) (sym c.known-item.is) (all c.loop-known.known-index c.known-item.result within) in
    let alike = c.is_of.ensures c.if-is_of.true in
    let spans : AreSpans bs known.asked.items other known.spans.items known.leaf =
    subst (λ l. AreSpans bs known.asked.items l known.spans.items known.leaf) alike.1 stands.spans in
    parts_by_spans bs os other known.spans.items _ known.leaf c.in_ok-parts_of.ensures
    (spans_same bs known.asked.items os other known.spans.items known.leaf alike.0 spans)

-- the spans of what is known from now on
spans_of : (c : goal.In_ok-push) → AreSpans c.add.new.self.blocks.items c.in_ok-asked.asked.items c.args.other.now c.add.new.spans.items c.in_ok-leaf.leaf
spans_of c =
    let os = c.args.rules.now in
    let bs = c.add.new.self.blocks.items in
    let noted = c.in_ok-leaf.ensures.notes in
    let same : c.in_ok-asked.asked.items ≡ os = search rules in
    let is : c.add.new.spans.items ≡ noted.more = noted.is ∙ ap (λ xs. xs ++ noted.more) c.new-spans.ensures.items in
    subst (λ xs. AreSpans bs xs c.args.other.now c.add.new.spans.items c.in_ok-leaf.leaf) (sym same)
    (subst (λ ss. AreSpans bs os c.args.other.now ss c.in_ok-leaf.leaf) (sym is) (noted.spans os (all_stand os)))

pub returns-clause-sound : goal.returns-clause-sound
returns-clause-sound c =
    let long : vec_len c.args.self.now.blocks ≡ length c.args.self.now.blocks.items = search rules in
    let other : IsBefore (length c.add.new.self.blocks.items) c.args.other.now =
    before_more c.args.self.now.blocks.items c.add.new.self.blocks.items c.in_ok-leaf.ensures.more c.args.other.now
    (subst (λ n. IsBefore n c.args.other.now) long c.requires.other) in
    let found = c.in_ok-leaf.ensures.found in
    let same : c.in_ok-asked.asked.items ≡ c.args.rules.now = search rules in
    known_sound c.add.new.self _ _ c.in_ok-leaf.ensures.sound refl c.in_ok-push.ensures.items
    (record {
      before = found.before;
      goes_on = other;
      stands = subst (λ xs. DecidesFor c.add.new.self.blocks.items c.in_ok-leaf.leaf xs c.args.other.now) (sym same) found.stands;
      spans = spans_of c;
    })

pub returns-clause-parts : goal.returns-clause-parts
returns-clause-parts c =
    let bs = c.add.new.self.blocks.items in
    let same : c.in_ok-asked.asked.items ≡ c.args.rules.now = search rules in
    subst (λ xs. ArePartsOf bs xs c.args.other.now c.in_ok-parts.parts.items c.in_ok-leaf.leaf) same
    (parts_by_spans bs c.in_ok-asked.asked.items c.args.other.now c.add.new.spans.items c.in_ok-parts.parts.items c.in_ok-leaf.leaf
    (subst (λ xs. AreBySpans xs c.add.new.spans.items c.in_ok-parts.parts.items) c.deref.ensures.value c.in_ok-parts.ensures) (spans_of c))
