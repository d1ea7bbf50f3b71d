use Rattle.std.proofs.Common.{◌≡◌, ◌∙◌, ◌++◌, ◌∷◌, [], List, subst, sym}
use Rattle.std.proofs.lemmas.List.Elements.{All-push}
use Rattle.compare.specs.declared.behind_runc.stub.calls.Calls.{Calls}
use Rattle.aside.specs.Judged.{AreLeftOut, IsJudgedBut, IsLeftOut, stub_calls}
use Rattle.aside.proofs.AsideLaws.{pushed_some}
use Rattle.aside.proofs.judged.leave_more.Goals as goal

pub returns : goal.returns
returns c = λ leave left one.
    let native = c.args.document.now.native in
    let bundle = c.args.document.now.bytes in
    let filter = c.args.filter.now in
    let old : List Calls = c.args.aside.items in
    let new : List Calls = c.push.new.self.items in
    let more : new ≡ old ++ c.args.calls ∷ [] = c.in_ok-push.ensures.items in
    record {
      left = subst (λ (a : List Calls). AreLeftOut native bundle filter leave a) (sym more)
          (All-push (IsLeftOut native bundle filter leave) old c.args.calls left one);
      all = λ none. absurd (pushed_some old c.args.calls (sym more ∙ none));
      but = λ some. subst (λ (a : List Calls). IsJudgedBut native bundle filter (stub_calls c.in_ok-judged.judged.whole c.args.behind.now.answered.items) a c.in_ok-judged.judged.evidence)
          c.deref.ensures.value c.in_ok-judged.ensures;
    }
