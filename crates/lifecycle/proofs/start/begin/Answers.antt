use Rattle.std.proofs.Common.{◌≡◌, sym, ap, ◌∙◌}
use Rattle.cert_check.specs.Checked.{profile_of}
use Rattle.processes.specs.Begin.{execve_of}
use Rattle.processes.specs.First.{by_program}
use Rattle.lifecycle.specs.Steps.{first_call, start_reply}
use Rattle.lifecycle.proofs.StartLemmas.{began, denied_ends, left, own_id}
use Rattle.lifecycle.proofs.start.begin.Goals as goal
use Rattle.lifecycle.proofs.start.begin.Goals.{In-Ok}

-- what the kernel has, and answered, once the first call was presented
pub settle-requires : goal.settle-requires
settle-requires g c = λ v denied.
    let k = g.K.Kernel.processes in
    let native : c.execve_record-first.result ≡ execve_of (profile_of c.args.checked).native = c.execve_record-first.ensures
    ∙ ap execve_of (c.native.ensures ∙ ap (λ p. p.native) c.profile.ensures) in
    let facts = began (k c.args.kernel.now) (k c.admit.new.self) (k c.present.new.self) c.args.id.now c.args.checked c.execve_record-first.result c.in-Ok.outcome
    c.in_ok-admit.ensures.ok native c.in-Ok.ensures.outcome c.in-Ok.ensures.ok in (
      (first_call (profile_of c.args.checked).native (by_program c.args.checked)).1,
      own_id (k c.args.kernel.now) (k c.present.new.self) c.args.id.now _ facts.1,
      denied_ends (profile_of c.args.checked).native (by_program c.args.checked) v (sym facts.0 ∙ denied),
    )

pub returns-in-Ok-clause-reply : goal.returns-in-Ok-clause-reply
returns-in-Ok-clause-reply g c =
    let k = g.K.Kernel.processes in
    let native : c.execve_record-first.result ≡ execve_of (profile_of c.args.checked).native = c.execve_record-first.ensures
    ∙ ap execve_of (c.native.ensures ∙ ap (λ p. p.native) c.profile.ensures) in
    let facts = began (k c.args.kernel.now) (k c.admit.new.self) (k c.present.new.self) c.args.id.now c.args.checked c.execve_record-first.result c.in-Ok.outcome
    c.in_ok-admit.ensures.ok native c.in-Ok.ensures.outcome c.in-Ok.ensures.ok in
    c.settle.ensures.reply ∙ ap start_reply facts.0

pub returns-in-Ok-clause-ok : goal.returns-in-Ok-clause-ok
returns-in-Ok-clause-ok g c =
    let k = g.K.Kernel.processes in
    let native : c.execve_record-first.result ≡ execve_of (profile_of c.args.checked).native = c.execve_record-first.ensures
    ∙ ap execve_of (c.native.ensures ∙ ap (λ p. p.native) c.profile.ensures) in
    let facts = began (k c.args.kernel.now) (k c.admit.new.self) (k c.present.new.self) c.args.id.now c.args.checked c.execve_record-first.result c.in-Ok.outcome
    c.in_ok-admit.ensures.ok native c.in-Ok.ensures.outcome c.in-Ok.ensures.ok in
    left (k c.args.kernel.now) (k c.present.new.self) (k c.settle.new.kernel) c.args.id.now c.in-Ok.outcome
    (first_call (profile_of c.args.checked).native (by_program c.args.checked)) facts.0 facts.1 c.settle.ensures.left
