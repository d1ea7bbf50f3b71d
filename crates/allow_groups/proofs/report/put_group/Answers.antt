use Rattle.std.proofs.Common.{List, ap, append_assoc, map, ◌++◌, ◌≡◌, ◌∙◌, ℕ}
use Rattle.std.specs.Prelude.{filter, string_bytes}
use Rattle.call_groups.specs.Groups.{calls_of, now_of}
use Rattle.allow_groups.specs.Report.{allows_words, has, lacks, lacks_words, line_of}
use Rattle.allow_groups.proofs.report.put_group.Goals as goal

pub returns : goal.returns
returns c =
    let g = c.args.group.now in
    let t : List ℕ = string_bytes c.args.text.now in
    let had : map now_of c.deref-3.result.now ≡ filter (has c.args.machines.now) (calls_of g) =
    ap (map now_of) c.deref-3.ensures.value ∙ c.in_ok-had.ensures
    ∙ ap (λ (ns : List (List ℕ)). filter (has c.args.machines.now) ns) (ap (map now_of) c.deref.ensures.value ∙ c.in_ok-calls.ensures) in
    let lacked : map now_of c.deref-4.result.now ≡ filter (lacks c.args.machines.now) (calls_of g) =
    ap (map now_of) c.deref-4.ensures.value ∙ c.in_ok-lacked.ensures
    ∙ ap (λ (ns : List (List ℕ)). filter (lacks c.args.machines.now) ns) (ap (map now_of) c.deref-2.ensures.value ∙ c.in_ok-calls.ensures) in
    c.in_ok-put_line-2.ensures
    ∙ ap (λ (s : List ℕ). s ++ line_of g lacks_words (map now_of c.deref-4.result.now)) c.in_ok-put_line.ensures
    ∙ append_assoc t (line_of g allows_words (map now_of c.deref-3.result.now)) (line_of g lacks_words (map now_of c.deref-4.result.now))
    ∙ ap (λ (ns : List (List ℕ)). t ++ (line_of g allows_words ns ++ line_of g lacks_words (map now_of c.deref-4.result.now))) had
    ∙ ap (λ (ns : List (List ℕ)). t ++ (line_of g allows_words (filter (has c.args.machines.now) (calls_of g)) ++ line_of g lacks_words ns)) lacked
