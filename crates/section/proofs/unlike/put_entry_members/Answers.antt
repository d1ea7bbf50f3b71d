use Rattle.std.proofs.Common.{◌≡◌, ◌++◌, List, ℕ, map, subst, IfOk}
use Rattle.json.specs.Value.{value_view}
use Rattle.section.specs.Members.{keys_of}
use Rattle.section.specs.Unlike.{known_of_entry, object_lines, of_one_engine, present_lines}
use Rattle.section.proofs.UnreadLaws.{both_behind}
use Rattle.section.proofs.unlike.put_entry_members.Goals as goal

pub returns : goal.returns
returns c =
    let v = value_view c.args.value.now in
    let place : List ℕ = c.args.place.now in
    let own = map (λ k. k.now) c.own_of_entry.result.now in
    subst (λ ks. IfOk c.put_present.result (λ _. c.put_present.new.lines.items
    ≡ c.args.lines.now.items ++ (object_lines known_of_entry place v ++ present_lines of_one_engine ks place (keys_of v)))) c.own_of_entry.ensures
    (both_behind c.put_present.result c.args.lines.now.items c.put_object.new.lines.items c.put_present.new.lines.items
    (object_lines known_of_entry place v) (present_lines of_one_engine own place (keys_of v)) c.in_ok-put_object.ensures c.put_present.ensures)
