use Rattle.std.proofs.Common.{◌≡◌, ◌+◌, ◌<◌, ◌≤◌, ◌++◌, ◌∙◌, Global, List, [], ◌∷◌, Vec, ap, arith, drop, length, length-append, map, subst}
use Rattle.std.proofs.Common.{ℕ, sym, take}
use Rattle.std.proofs.lemmas.List.{map-append, take_all}
use Rattle.maker.specs.Exported.{IsMakeError}
use Rattle.cli.specs.Running.{InTurn, IsBundleOf}
use Rattle.cli.proofs.TurnLaws.{cut_at, in_turn_on, of_ok, ready, taken_on}
use Rattle.cli.proofs.run.bundles_of.Goals as goal

abbrev bytes_of : Vec ℕ Global → List ℕ
bytes_of t = t.items

pub returns-in-Err-clause-err : goal.returns-in-Err-clause-err
returns-in-Err-clause-err c = λ other.
    let texts = c.args.texts.now in
    let i = c.loop-place.place in
    let text = c.index-texts-place.result in
    let lt : i < length texts = omega (arith, c.loop-place-test.true, c.requires) in record {
      before = map bytes_of (take i texts);
      text = text.items;
      after = map bytes_of (drop (i + 1) texts);
      split = ap (map bytes_of) (cut_at texts i text lt c.index-texts-place.is) ∙ map-append bytes_of (take i texts)
          (text ∷ drop (i + 1) texts);
      ready = ready c.args.native 1 (map bytes_of (take i texts)) c.loop-place.list.items c.loop-place.invariant.each;
      is = subst (λ t. IsMakeError c.args.native t c.in-Err.make_error) c.deref.ensures.value (c.in-Err.ensures.err other);
    }

pub loop-place-preserved : goal.loop-place-preserved
loop-place-preserved c =
    let texts = c.args.texts.now in
    let i = c.loop-place.place in
    let text = c.index-texts-place.result in
    let lt : i < length texts = omega (arith, c.loop-place-test.true, c.requires) in
    let b = c.in-Ok.bundle in
    let is : IsBundleOf c.args.native (i + 1) text.items b =
    subst (λ t. IsBundleOf c.args.native (i + 1) t b) c.deref.ensures.value c.in-Ok.ensures.ok in
    let pushed : c.push.new.self.items ≡ c.loop-place.list.items ++ b ∷ [] =
    of_ok c.push.result c.push.new.self.items (c.loop-place.list.items ++ b ∷ []) c.loop-place.list.items
    (sym c.is_err.ensures.value ∙ c.if-is_err.false) c.push.ensures.items in record {
      each = in_turn_on (IsBundleOf c.args.native) (map bytes_of (take i texts)) (map bytes_of (take (i + 1) texts))
          c.loop-place.list.items c.push.new.self.items text.items b i
          (ap (map bytes_of) (taken_on texts i text lt c.index-texts-place.is) ∙ map-append bytes_of (take i texts) (text ∷ []))
          pushed c.loop-place.invariant.count c.loop-place.invariant.each is;
      count = ap length pushed ∙ omega (arith, length-append c.loop-place.list.items (b ∷ []));
    }

pub returns : goal.returns
returns c =
    let texts = c.args.texts.now in
    let le : length texts ≤ c.loop-place.place = omega (arith, c.loop-place-test.false, c.requires) in record {
      ok = subst (λ (l : List (Vec ℕ Global)). InTurn (IsBundleOf c.args.native) 1 (map bytes_of l) c.loop-place.list.items)
          (take_all c.loop-place.place texts le) c.loop-place.invariant.each;
      err = tt;
    }
