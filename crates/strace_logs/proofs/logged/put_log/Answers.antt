use Rattle.std.proofs.Common.{◌≡◌, ◌-◌, ◌≤◌, ℕ, List, arith, drop, length, sym, ap, take, ◌∙◌}
use Rattle.std.specs.Prelude.{◌&&◌, nat_lt, true, false}
use Rattle.std.specs.List.{list_all}
use Rattle.std.proofs.lemmas.Bool.{le-ltb, lt-ltb}
use Rattle.std.proofs.lemmas.List.{length-drop, length-map, take_all}
use Rattle.strace_logs.specs.Line.{is_raw}
use Rattle.strace_logs.specs.Logged.{Logged, are_raw, calls_of}
use Rattle.strace_logs.specs.declared.logged.LogCall.{LogCall}
use Rattle.strace_logs.specs.inner.Views.{all_logged, logged}
use Rattle.strace_logs.proofs.LoggedLaws.{added_are_raw, has_calls}
use Rattle.strace_logs.proofs.logged.put_log.Goals as goal

pub returns-then-before-len-clause-is_log : goal.returns-then-before-len-clause-is_log
returns-then-before-len-clause-is_log c =
    let log : List ℕ × List ℕ = (c.args.log.now.name.now, c.args.log.now.text.now) in
    let items : List LogCall = c.args.calls.now.items in
    let old : List Logged = all_logged items in
    let new : List LogCall = c.put_text.new.calls.items in
    let seen : List LogCall = c.deref.result.now in
    let a = c.len-before.result in
    let before : a ≡ length old = c.len-before.ensures ∙ c.args.calls.now.ok.0 ∙ sym (length-map items logged) in
    let behind : c.len.result ≡ length (all_logged new) = c.len.ensures ∙ c.put_text.new.calls.ok.0 ∙ sym (length-map new logged) in
    let fits : length (drop a seen) ≤ length seen - a = omega (arith, length-drop a seen) in
    let slice : take (length seen - a) (drop a seen) ≡ drop a new = take_all (length seen - a) (drop a seen) fits ∙ ap (drop a) c.deref.ensures.value in
    let raw : c.are_raw.result ≡ are_raw (calls_of c.args.native log) =
    c.are_raw.ensures
    ∙ ap (list_all (λ (call : LogCall). is_raw call.line.now)) slice
    ∙ added_are_raw c.args.native log old new a c.in_ok-put_text.ensures before in
    let some : nat_lt 0 (length (calls_of c.args.native log)) ≡ true =
    sym (has_calls c.args.native log old (all_logged new) a c.len.result c.in_ok-put_text.ensures before behind)
    ∙ lt-ltb a c.len.result c.if-before-len.true in
    raw ∙ sym (ap (λ b. b && are_raw (calls_of c.args.native log)) some)

pub returns-else-before-len-clause-is_log : goal.returns-else-before-len-clause-is_log
returns-else-before-len-clause-is_log c =
    let log : List ℕ × List ℕ = (c.args.log.now.name.now, c.args.log.now.text.now) in
    let items : List LogCall = c.args.calls.now.items in
    let old : List Logged = all_logged items in
    let new : List LogCall = c.put_text.new.calls.items in
    let a = c.len-before.result in
    let before : a ≡ length old = c.len-before.ensures ∙ c.args.calls.now.ok.0 ∙ sym (length-map items logged) in
    let behind : c.len.result ≡ length (all_logged new) = c.len.ensures ∙ c.put_text.new.calls.ok.0 ∙ sym (length-map new logged) in
    let none : nat_lt a c.len.result ≡ false = le-ltb a c.len.result c.if-before-len.false in
    let calls : nat_lt a c.len.result ≡ nat_lt 0 (length (calls_of c.args.native log)) =
    has_calls c.args.native log old (all_logged new) a c.len.result c.in_ok-put_text.ensures before behind in
    none ∙ sym (ap (λ b. b && are_raw (calls_of c.args.native log)) (sym calls ∙ none))
