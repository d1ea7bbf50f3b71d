use Rattle.std.proofs.Common.{◌≡◌, ◌++◌, List, ap, sym, inr, ◌∙◌}
use Rattle.std.specs.Prelude.{ℕ, None}
use Rattle.std.specs.Option.{option_map}
use denote.Ref.{Bor}
use Rattle.strace_logs.specs.Logged.{calls_in, first_none, parts_of}
use Rattle.strace_logs.specs.declared.logged.LogCall.{LogCall}
use Rattle.strace_logs.specs.Unread.{are_read, unread_text}
use Rattle.strace_logs.specs.inner.Played.{Plays}
use Rattle.strace_logs.specs.inner.Views.{all_logged}
use Rattle.strace_logs.proofs.PlayedLaws.{logs_played}
use Rattle.wording.proofs.Results.{if_ok_both}
use Rattle.wording.specs.Told.{end_if}
use Rattle.wording.specs.declared.told.Told.{Told}
use Rattle.strace_logs.proofs.replaying.played.Goals as goal

pub returns : goal.returns
returns c =
    let native = c.args.native in
    let p = c.args.profile.now in
    let rules = c.args.all.now.rules.items in
    let ends = c.args.all.now.ends.items in
    let logs = parts_of c.args.logs.now in
    let unused = c.args.tells_unused in
    let calls = all_logged c.deref.result.now in
    let none : first_none native logs ≡ None =
    sym c.in_ok-name.ensures.none ∙ ap (option_map (λ (name : Bor (List ℕ)). name.now)) c.in-None.is in
    let are : calls ≡ calls_in native logs =
    ap all_logged c.deref.ensures.value ∙ c.in_ok-name.ensures.calls c.in-None.is
    ∙ ap (λ (l : List LogCall). all_logged l ++ calls_in native logs) c.new-calls.ensures.items in
    let told = c.in_ok-told-in-None.told in
    if_ok_both (λ (new : Told). new.bytes.items ≡ told.bytes.items ++ unread_text native logs)
    (λ (new : Told). new.end ≡ end_if (are_read native logs) told.end) (Plays native p rules ends logs unused)
    (λ new bytes end. inr (logs_played native p rules ends logs unused calls told new none are c.in_ok-told-in-None.ensures bytes end))
    c.with_unread.result c.with_unread.ensures.bytes c.with_unread.ensures.end
