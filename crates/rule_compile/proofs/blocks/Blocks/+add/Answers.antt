use Rattle.std.proofs.Common.{◌≡◌, ◌∙◌, ◌+◌, ◌++◌, ◌∷◌, ℕ, List, [], ap, append-nil, arith, length, refl, rules, subst, sym, take, drop, vec_len}
use Rattle.std.specs.Prelude.{IfSome}
use Rattle.std.proofs.lemmas.List.{take-append-drop}
use Rattle.rule_compile.specs.declared.outline.Block.{Block}
use Rattle.rule_compile.specs.inner.Left.{AreRules}
use Rattle.rule_compile.specs.declared.known.Span.{Span}
use Rattle.rule_compile.specs.inner.Noted.{AreNoted, span_of}
use Rattle.rule_compile.specs.inner.Runs.{IsBefore}
use Rattle.rule_compile.specs.inner.Stands.{HasMore, IsFound}
use Rattle.rule_compile.proofs.BlocksLaws.{sound_same}
use Rattle.rule_compile.proofs.DecidesLaws.{before_more, decides_less, more_on}
use Rattle.rule_compile.proofs.PartLaws.{both_noted, one_noted, spans_kept}
use Rattle.rule_compile.proofs.StandsLaws.{also_found, parted_found, parts_are_rules, put_again, take_old}
use Rattle.rule_compile.proofs.blocks.Blocks.+add.Goals as goal

pub returns-then-all_have-clause-found : goal.returns-then-all_have-clause-found
returns-then-all_have-clause-found t c =
    let long : vec_len c.args.self.now.blocks ≡ length c.args.self.now.blocks.items = search rules in
    also_found c.args.self.now.blocks.items c.args.rules.now c.args.other.now
    (subst (λ n. IsBefore n c.args.other.now) long c.requires.other) (c.all_have.ensures c.if-all_have.true)

pub add-requires : goal.add-requires
add-requires t c =
    let within = c.in-Some.ensures.within in
    let parts = parts_are_rules c.args.rules.now c.in-Some.place c.requires.rules within.0 within.1 c.in-Some.ensures.begins in (
      search rules,
      (
        omega (arith, c.requires.within, c.split_at.ensures.back_len, within.1),
        (c.requires.sound, (subst AreRules (sym c.split_at.ensures.back) parts.1, c.requires.other)),
      ),
    )

pub add-requires-2 : goal.add-requires-2
add-requires-2 t c =
    let within = c.in-Some.ensures.within in
    let parts = parts_are_rules c.args.rules.now c.in-Some.place c.requires.rules within.0 within.1 c.in-Some.ensures.begins in
    let next = c.in_ok-next.ensures.found in
    let long : vec_len c.add.new.self.blocks ≡ length c.add.new.self.blocks.items = search rules in (
      search rules,
      (
        omega (arith, c.requires.within, c.split_at.ensures.front_len, within.1),
        (
          c.in_ok-next.ensures.sound,
          (
            subst AreRules (sym c.split_at.ensures.front) parts.0,
            subst (λ n. IsBefore n c.in_ok-next.next) (sym long) next.before,
          ),
        ),
      ),
    )

pub decide-requires-clause-sound : goal.decide-requires-clause-sound
decide-requires-clause-sound t c =
    let long : c.len-before.result ≡ length c.args.self.now.blocks.items = search rules in
    sound_same c.args.self.now _
    (c.in_ok-aside.ensures.kept ∙ take_old c.args.self.now.blocks.items c.add-2.new.self.blocks.items c.len-before.result
    (more_on c.in_ok-next.ensures.more c.in_ok-parted.ensures.more) long)
    (c.in_ok-aside.ensures.known ∙ c.in_ok-parted.ensures.known ∙ c.in_ok-next.ensures.known) c.requires.sound

-- the blocks are again those of both parts
again : (t : ℕ) (c : goal.In_ok-put_back t) → c.put_back.new.self.blocks.items ≡ c.add-2.new.self.blocks.items
again t c =
    let old : List Block = c.args.self.now.blocks.items in
    let late : List Block = c.add-2.new.self.blocks.items in
    let third : List Block = c.decide.new.self.blocks.items in
    let long : c.len-before.result ≡ length c.args.self.now.blocks.items = search rules in
    let more = more_on c.in_ok-next.ensures.more c.in_ok-parted.ensures.more in
    let kept : c.set_aside.new.self.blocks.items ≡ old = c.in_ok-aside.ensures.kept ∙ take_old old late c.len-before.result more long in
    let third_more : HasMore old third = subst (λ bs. HasMore bs third) kept c.in_ok-whole.ensures.more in
    c.in_ok-put_back.ensures.blocks ∙ ap (λ x. x ++ c.in_ok-aside.aside.items) c.drop_from.ensures.kept
    ∙ ap (λ x. take c.len-before.result third ++ x) c.in_ok-aside.ensures.aside ∙ put_again old late third c.len-before.result more third_more long

pub returns-2-clause-sound : goal.returns-2-clause-sound
returns-2-clause-sound t c =
    sound_same c.add-2.new.self c.put_back.new.self (again t c)
    (c.in_ok-put_back.ensures.known ∙ c.drop_from.ensures.known ∙ c.in_ok-whole.ensures.known ∙ c.in_ok-aside.ensures.known)
    c.in_ok-parted.ensures.sound

pub returns-2-clause-found : goal.returns-2-clause-found
returns-2-clause-found t c =
    let os = c.args.rules.now in
    let other = c.args.other.now in
    let place = c.in-Some.place in
    let early : List Block = c.add.new.self.blocks.items in
    let late : List Block = c.add-2.new.self.blocks.items in
    let sound = c.in_ok-parted.ensures.sound in
    let long : vec_len c.args.self.now.blocks ≡ length c.args.self.now.blocks.items = search rules in
    let before : IsBefore (length early) other =
    before_more c.args.self.now.blocks.items early c.in_ok-next.ensures.more other (subst (λ n. IsBefore n other) long c.requires.other) in
    let found : IsFound late (take place os ++ drop place os) other c.in_ok-parted.parted =
    parted_found early late (take place os) (drop place os) other c.in_ok-next.next c.in_ok-parted.parted c.in_ok-parted.ensures.more
    c.in-Some.ensures.begins sound.blocks_are before
    (subst (λ xs. IsFound early xs other c.in_ok-next.next) c.split_at.ensures.back c.in_ok-next.ensures.found)
    (subst (λ xs. IsFound late xs c.in_ok-next.next c.in_ok-parted.parted) c.split_at.ensures.front c.in_ok-parted.ensures.found)
    (λ r v d. decides_less early late c.in_ok-parted.ensures.more sound.blocks_are before d) in
    subst (λ bs. IsFound bs os other c.in_ok-parted.parted) (sym (again t c))
    (subst (λ xs. IsFound late xs other c.in_ok-parted.parted) (take-append-drop place os) found)

pub returns-then-all_have-clause-notes : goal.returns-then-all_have-clause-notes
returns-then-all_have-clause-notes t c = record { more = []; is = sym (append-nil c.args.spans.now.items); spans = λ os stand. refl }

pub returns-in_default-clause-notes : goal.returns-in_default-clause-notes
returns-in_default-clause-notes t c =
    let rules = c.args.rules.now in
    let bs = c.add_rule.new.self.blocks.items in
    let to = c.in_ok-leaf.leaf in
    one_noted bs c.args.spans.now.items c.add_span.new.spans.items rules c.args.start (length rules) c.args.other.now to
    refl c.in_ok-add_span.ensures c.requires.rules.0 c.in_ok-leaf.ensures.found

pub returns-clause-notes : goal.returns-clause-notes
returns-clause-notes t c =
    let rules = c.args.rules.now in
    let first = c.in_ok-next.ensures.notes in
    let second = c.in_ok-parted.ensures.notes in
    let old : List Span = c.args.spans.now.items in
    let kept : c.truncate.new.self.items ≡ old =
    c.truncate.ensures.items ∙ spans_kept old c.add.new.spans.items c.add-2.new.spans.items c.len-noted.result first.more second.more first.is
    second.is (omega (arith, c.len-noted.ensures, c.args.spans.now.ok)) in
    let bs : List Block = c.decide.new.self.blocks.items in
    let whole = c.in-Some-2.whole in
    let found : IsFound bs rules c.args.other.now whole =
    subst (λ o. IfSome o (IsFound bs rules c.args.other.now)) c.in-Some-2.is c.in_ok-whole.ensures.found in
    one_noted bs old c.add_span-2.new.spans.items rules c.args.start (length rules) c.args.other.now whole
    refl (c.in_ok-add_span-2.ensures ∙ ap (λ xs. xs ++ span_of c.args.start (length rules) whole ∷ []) kept) c.requires.rules.0 found

pub returns-2-clause-notes : goal.returns-2-clause-notes
returns-2-clause-notes t c =
    let rules = c.args.rules.now in
    let other = c.args.other.now in
    let place = c.in-Some.place in
    let early : List Block = c.add.new.self.blocks.items in
    let late : List Block = c.add-2.new.self.blocks.items in
    let long : vec_len c.args.self.now.blocks ≡ length c.args.self.now.blocks.items = omega (arith, c.args.self.now.blocks.ok) in
    let before : IsBefore (length early) other =
    before_more c.args.self.now.blocks.items early c.in_ok-next.ensures.more other (subst (λ n. IsBefore n other) long c.requires.other) in
    let within = c.in-Some.ensures.within in
    let one : AreNoted early c.args.spans.now.items c.add.new.spans.items (drop place rules) (c.args.start + place) other c.in_ok-next.next =
    subst (λ xs. AreNoted early c.args.spans.now.items c.add.new.spans.items xs (c.args.start + place) other c.in_ok-next.next)
    c.split_at.ensures.back c.in_ok-next.ensures.notes in
    let two : AreNoted late c.add.new.spans.items c.add-2.new.spans.items (take place rules) c.args.start c.in_ok-next.next c.in_ok-parted.parted =
    subst (λ xs. AreNoted late c.add.new.spans.items c.add-2.new.spans.items xs c.args.start c.in_ok-next.next c.in_ok-parted.parted)
    c.split_at.ensures.front c.in_ok-parted.ensures.notes in
    subst (λ bs. AreNoted bs c.args.spans.now.items c.add-2.new.spans.items rules c.args.start other c.in_ok-parted.parted) (sym (again t c))
    (both_noted early late c.args.spans.now.items c.add.new.spans.items c.add-2.new.spans.items rules c.args.start place other c.in_ok-next.next
    c.in_ok-parted.parted c.in_ok-parted.ensures.more c.in_ok-parted.ensures.sound.blocks_are before (omega (arith, within.1))
    c.in-Some.ensures.begins one two)
