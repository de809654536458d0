use Rattle.std.proofs.Common.{◌≡◌, ◌++◌, ◌∙◌, ap₂, ℕ, List, codes, string_bytes}
use Rattle.std.specs.FinMap as finite
use Rattle.std.specs.List.{All, flat_map}
use Rattle.std.specs.Ordering.{nat_cmp}
use Rattle.std.specs.Prelude.{String}
use Rattle.std.specs.declared.alloc.Global.{Global}
use Rattle.c25_image_source.specs.Told.{IsTold, comment_of, count_of}
use Rattle.c25_layout.specs.declared.layout.Part.{Part}
use Rattle.c25_reach.specs.Proposals.{IsTaken}
use Rattle.c25_reach.specs.ReachLine.{reach_line}
use Rattle.c25_reach.specs.Reached.{parts_reach}
use Rattle.c25_reach.specs.declared.reach.Reach.{Reach}
use Rattle.c25_image_source.proofs.told.told_of.Goals as goal

told : (name : List ℕ) (words : finite.FinMap nat_cmp ℕ) (parts : List Part) (count : ℕ) (reach : Reach) (line seen : List ℕ) (proposals shown : List (String Global)) (text : List ℕ) → All (λ l. IsTaken (string_bytes l)) proposals
    → count ≡ count_of words → reach ≡ parts_reach parts → line ≡ reach_line name count reach → seen ≡ line → shown ≡ proposals → text ≡ codes "; " ++ seen ++ flat_map comment_of shown → IsTold name words parts text
told name words parts count reach line seen proposals shown text taken counted reached of is same has =
    let line_is = is ∙ of ∙ ap₂ (λ (n : ℕ) (r : Reach). reach_line name n r) counted reached in
    (proposals, taken, has ∙ ap₂ (λ (l : List ℕ) (ps : List (String Global)). codes "; " ++ l ++ flat_map comment_of ps) line_is same)

pub returns : goal.returns
returns c =
    told c.args.name.now c.args.words.now c.args.parts.now c.count_of.result c.reach_of.result (string_bytes c.in_ok-reached.reached) _ c.in_ok-proposals.proposals.items _ (string_bytes c.in_ok-text.text) c.in_ok-proposals.ensures c.count_of.ensures c.reach_of.ensures c.in_ok-reached.ensures
    c.deref.ensures c.deref-2.ensures.value c.in_ok-text.ensures
