use Rattle.std.proofs.Common.{◌≡◌, ◌+◌, ◌<◌, ◌∙◌, ap, arith, length, max, refl, subst, sym, vec_len}
use Rattle.machines.specs.Arch.{token_of}
use Rattle.rule_compile.specs.declared.ranges.Leaf.TheVariants.{Verdict}
use Rattle.rule_compile.specs.inner.Numbers.{AreUnconditional, IsExtended, LeafFor, Reached}
use Rattle.rule_compile.specs.inner.Stands.{DecidesNumber}
use Rattle.rule_compile.specs.inner.Noted.{NotesNumber}
use Rattle.rule_compile.specs.inner.Told.{ToldSoFar}
use Rattle.rule_compile.proofs.DecidesLaws.{before_le}
use Rattle.rule_compile.proofs.NotedLaws.{calls_noted}
use Rattle.rule_compile.proofs.RangeLaws.{reached_end, reached_next}
use Rattle.rule_compile.proofs.ToldLaws.{next_is, told_first, told_next}
use Rattle.rule_compile.proofs.ranges.Ranges.add_next.Goals as goal

pub returns-then-next-end-clause-reached : goal.returns-then-next-end-clause-reached
returns-then-next-end-clause-reached c most many reached =
    let p = c.args.profile.now in
    let m = c.args.machine in
    let t = c.token-token.result in
    let from = c.args.self.now.end in
    let end = c.args.end in
    let next = c.next_of-next.result in
    let old = c.args.self.now.ranges.items in
    let mid = c.extend.new.self.ranges.items in
    let is_next = next_is p m t from end next p.rules c.token-token.ensures refl
    c.next_of-next.ensures in
    let first : IsExtended old from next (Verdict p.default_word) mid =
    subst (λ w. IsExtended old from next (Verdict w) mid) c.default_word-default.ensures c.in_ok-extend.ensures.extended in
    subst (λ n. Reached p m most end n mid) (sym c.in_ok-extend.ensures.end)
    (reached_end p m most from end next old mid c.requires.before c.requires.small c.requires.own many reached is_next first
    c.if-next-end.true)

pub returns-clause-reached : goal.returns-clause-reached
returns-clause-reached c most many reached =
    let p = c.args.profile.now in
    let m = c.args.machine in
    let t = c.token-token.result in
    let from = c.args.self.now.end in
    let end = c.args.end in
    let next = c.next_of-next.result in
    let old = c.args.self.now.ranges.items in
    let mid = c.extend.new.self.ranges.items in
    let is_next = next_is p m t from end next p.rules c.token-token.ensures refl
    c.next_of-next.ensures in
    let first : IsExtended old from next (Verdict p.default_word) mid =
    subst (λ w. IsExtended old from next (Verdict w) mid) c.default_word-default.ensures c.in_ok-extend.ensures.extended in
    let new = c.extend-2.new.self.ranges.items in
    let leaf = c.in_ok-leaf.leaf in
    let decided : AreUnconditional p.rules → LeafFor p.rules (token_of m) next p.default_word leaf =
    subst (λ n. AreUnconditional p.rules → LeafFor p.rules n next p.default_word leaf) c.token-token.ensures c.in_ok-leaf.ensures.verdict in
    let inside : next < end = omega (arith, c.if-next-end.false, is_next.most) in
    let one : IsExtended mid (max from next) (next + 1) leaf new =
    subst (λ n. IsExtended mid n (next + 1) leaf new) c.in_ok-extend.ensures.end c.in_ok-extend-2.ensures.extended in
    let at : c.extend-2.new.self.end ≡ max (max from next) (next + 1) =
    c.in_ok-extend-2.ensures.end ∙ ap (λ n. max n (next + 1)) c.in_ok-extend.ensures.end in
    subst (λ n. Reached p m most end n new) (sym at)
    (reached_next p m most from end next old mid c.requires.before c.requires.small c.requires.own many reached is_next first new leaf
    inside decided one)

pub returns-then-next-end-clause-told : goal.returns-then-next-end-clause-told
returns-then-next-end-clause-told c told =
    let p = c.args.profile.now in
    let m = c.args.machine in
    let t = c.token-token.result in
    let from = c.args.self.now.end in
    let end = c.args.end in
    let next = c.next_of-next.result in
    let old = c.args.self.now.ranges.items in
    let mid = c.extend.new.self.ranges.items in
    let blocks = c.args.blocks.now.blocks.items in
    let is_next = next_is p m t from end next p.rules c.token-token.ensures refl
    c.next_of-next.ensures in
    let first : IsExtended old from next (Verdict p.default_word) mid =
    subst (λ w. IsExtended old from next (Verdict w) mid) c.default_word-default.ensures c.in_ok-extend.ensures.extended in
    subst (λ n. ToldSoFar p m blocks n mid) (sym c.in_ok-extend.ensures.end)
    (told_first p m blocks c.rules.ensures.is_profile.clear from end next old mid c.requires.before c.requires.own told is_next first)

pub returns-clause-told : goal.returns-clause-told
returns-clause-told c told =
    let p = c.args.profile.now in
    let m = c.args.machine in
    let t = c.token-token.result in
    let from = c.args.self.now.end in
    let end = c.args.end in
    let next = c.next_of-next.result in
    let old = c.args.self.now.ranges.items in
    let mid = c.extend.new.self.ranges.items in
    let new = c.extend-2.new.self.ranges.items in
    let blocks = c.args.blocks.now.blocks.items in
    let grown = c.leaf_of.new.blocks.blocks.items in
    let leaf = c.in_ok-leaf.leaf in
    let is_next = next_is p m t from end next p.rules c.token-token.ensures refl
    c.next_of-next.ensures in
    let first : IsExtended old from next (Verdict p.default_word) mid =
    subst (λ w. IsExtended old from next (Verdict w) mid) c.default_word-default.ensures c.in_ok-extend.ensures.extended in
    let decided : DecidesNumber p.rules (token_of m) next p.default_word grown leaf =
    subst (λ n. DecidesNumber p.rules n next p.default_word grown leaf) c.token-token.ensures c.in_ok-leaf.ensures.decides in
    let inside : next < end = omega (arith, c.if-next-end.false, is_next.most) in
    let one : IsExtended mid (max from next) (next + 1) leaf new =
    subst (λ n. IsExtended mid n (next + 1) leaf new) c.in_ok-extend.ensures.end c.in_ok-extend-2.ensures.extended in
    let at : c.extend-2.new.self.end ≡ max (max from next) (next + 1) =
    c.in_ok-extend-2.ensures.end ∙ ap (λ n. max n (next + 1)) c.in_ok-extend.ensures.end in
    subst (λ n. ToldSoFar p m grown n new) (sym at)
    (told_next p m blocks c.rules.ensures.is_profile.clear from end next old mid c.requires.before c.requires.own told is_next first
    grown c.in_ok-leaf.ensures.more leaf new inside
    (before_le (vec_len c.leaf_of.new.blocks.blocks) (length grown) (omega (arith, c.leaf_of.new.blocks.blocks.ok)) leaf c.in_ok-leaf.ensures.before)
    decided one)

pub returns-clause-calls : goal.returns-clause-calls
returns-clause-calls c listed all =
    let p = c.args.profile.now in
    let m = c.args.machine in
    let t = c.token-token.result in
    let from = c.args.self.now.end in
    let end = c.args.end in
    let next = c.next_of-next.result in
    let a = c.args.blocks.now in
    let b = c.leaf_of.new.blocks in
    let is_next = next_is p m t from end next p.rules c.token-token.ensures refl
    c.next_of-next.ensures in
    let inside : next < end = omega (arith, c.if-next-end.false, is_next.most) in
    let noted : NotesNumber a b p.rules (token_of m) next p.default_word =
    subst (λ n. NotesNumber a b p.rules n next p.default_word) c.token-token.ensures c.in_ok-leaf.ensures.notes in
    calls_noted p c.rules.ensures.is_profile.clear m next a b (c.requires.own next is_next.least inside listed) c.in_ok-leaf.ensures.more
    c.in_ok-leaf.ensures.sound.blocks_are noted all
