-- a comment is among the parts that are left where one is among all
use Rattle.std.proofs.Common.{◌≡◌, drop, map}
use Rattle.std.specs.List.{list_any}
use Rattle.c25_file_hints.specs.Items.{is_comment}
use Rattle.c25_file_hints.proofs.comments.has_comment.Given as goal

abbrev pub invariant-loop-part : goal.invariant-loop-part
invariant-loop-part l = list_any is_comment (map (λ w. w.now) (drop l.part-index l.parts)) ≡ list_any is_comment (map (λ w. w.now) l.parts)
