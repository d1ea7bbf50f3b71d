-- The text of an object is read as that object.
use Rattle.std.proofs.Common.{◌≡◌, ℕ, suc, ◌≤◌, ◌<◌, ◌^◌, List, [], ◌∷◌, map, max, arith}
use Rattle.std.specs.Prelude.{Some}
use Rattle.std.specs.Fmt.{decimal}
use Rattle.json.specs.Json.{Json, Items, Members, array, document, max_depth, member, no_members, object, string}
use Rattle.json.specs.Print.{print}
use Rattle.json.specs.Tree.{HasNumbers, ItemsHaveNumbers, MembersHaveNumbers, depth, items_depth, json_tokens, members_depth}
use Rattle.json.specs.Value.{items_of}
use Rattle.json.proofs.Printed.Decimals.{IsNumber-decimal}
use Rattle.json.proofs.Printed.Trees.{document-print}
use Rattle.json_lines.specs.Kinds.{Kinds}
use Rattle.json_lines.specs.Lines.{Group, Text}
use Rattle.json_lines.specs.Objects.{certificate_object, detail_object, details, group_object, members_then, row_then, status_object}
use Rattle.json_lines.specs.Shapes.{Member, Row, Shape, row_of}

numbers_then : (ms : List Member) (others : Members) → MembersHaveNumbers others → MembersHaveNumbers (members_then ms others)
numbers_then [] others h = h
numbers_then (m ∷ ms) others h = (tt, numbers_then ms others h)

depth_then : (ms : List Member) (others : Members) (n : ℕ) → members_depth others ≤ n → members_depth (members_then ms others) ≤ n
depth_then [] others n h = h
depth_then (m ∷ ms) others n h = let more = depth_then ms others n h in omega arith

details_numbers : (shapes : List Shape) (lines : List Text) → ItemsHaveNumbers (items_of (map (detail_object shapes) lines))
details_numbers shapes [] = tt
details_numbers shapes (line ∷ lines) = ((tt, numbers_then (row_of shapes line).1 no_members tt), details_numbers shapes lines)

details_depth : (shapes : List Shape) (lines : List Text) → items_depth (items_of (map (detail_object shapes) lines)) ≤ 1
details_depth shapes [] = omega arith
details_depth shapes (line ∷ lines) =
    let here = depth_then (row_of shapes line).1 no_members 0 (omega arith) in
    let more = details_depth shapes lines in
    omega arith

members_numbers : (shapes : List Shape) (lines : List Text) → MembersHaveNumbers (details shapes lines)
members_numbers shapes [] = tt
members_numbers shapes (line ∷ lines) = (details_numbers shapes (line ∷ lines), tt)

members_depth_is : (shapes : List Shape) (lines : List Text) → members_depth (details shapes lines) ≤ 2
members_depth_is shapes [] = omega arith
members_depth_is shapes (line ∷ lines) = let each = details_depth shapes (line ∷ lines) in omega arith

pub group_read : (kinds : Kinds) (group : Group) → document (print (json_tokens (group_object kinds group))) ≡ Some (group_object kinds group)
group_read kinds group =
    let deep = depth_then (row_of kinds.0 group.0).1 (details kinds.1 group.1) 2 (members_depth_is kinds.1 group.1) in
    document-print (group_object kinds group) (tt, numbers_then (row_of kinds.0 group.0).1 (details kinds.1 group.1) (members_numbers kinds.1 group.1))
    (omega arith)
