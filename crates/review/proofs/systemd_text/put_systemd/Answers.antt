use Rattle.std.proofs.Common.{List, ap, append_assoc, map, ◌++◌, ◌≡◌, ◌∙◌, ℕ}
use Rattle.std.specs.Prelude.{codes, string_bytes}
use Rattle.call_groups.specs.Groups.{now_of}
use Rattle.review.specs.SystemdTold.{fewer_line, head_line, names_line, open_names, refused_names, undecided_names}
use Rattle.review.proofs.systemd_text.put_systemd.Goals as goal

pub returns : goal.returns
returns c =
    let t : List ℕ = string_bytes c.args.text.now in
    let list = c.args.list.now in
    let head : List ℕ = head_line c.args.group.now list in
    let refused : List (List ℕ) = map now_of c.deref.result.now in
    let through : List (List ℕ) = map now_of c.deref-2.result.now in
    let others : List (List ℕ) = map now_of c.deref-3.result.now in
    let fewer : List ℕ = fewer_line refused through in
    let last : List ℕ = names_line (codes "undecided") others in
    let are_refused : refused ≡ refused_names list = ap (map now_of) c.deref.ensures.value ∙ c.in_ok-refused.ensures in
    let are_open : through ≡ open_names list = ap (map now_of) c.deref-2.ensures.value ∙ c.in_ok-through.ensures in
    let are_undecided : others ≡ undecided_names list = ap (map now_of) c.deref-3.ensures.value ∙ c.in_ok-undecided.ensures in
    c.in_ok-put_names.ensures
    ∙ (ap (λ (s : List ℕ). s ++ last) (c.in_ok-put_fewer.ensures ∙ ap (λ (s : List ℕ). s ++ fewer) c.in_ok-put_head.ensures)
    ∙ (append_assoc (t ++ head) fewer last
    ∙ (append_assoc t head (fewer ++ last)
    ∙ (ap (λ (ns : List (List ℕ)). t ++ (head ++ (fewer_line ns through ++ last))) are_refused
    ∙ (ap (λ (ns : List (List ℕ)). t ++ (head ++ (fewer_line (refused_names list) ns ++ last))) are_open
    ∙ ap (λ (ns : List (List ℕ)). t ++ (head ++ (fewer_line (refused_names list) (open_names list) ++ names_line (codes "undecided") ns)))
    are_undecided)))))
