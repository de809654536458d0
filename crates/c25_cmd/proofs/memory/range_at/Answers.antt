use Rattle.std.proofs.Common.{◌∙◌, Bool, sym, subst, refl}
use Rattle.std.specs.declared.alloc.Global.{Global}
use Rattle.std.specs.declared.vec.Vec.{Vec}
use Rattle.c25_cmd.specs.declared.command.MemoryRange.{MemoryRange}
use Rattle.c25_cmd.specs.Known.{KnowsWords}
use Rattle.c25_cmd.specs.View.{range_of, ranges_of}
use Rattle.c25_cmd.proofs.memory.range_at.Goals as goal

pub returns-clause-named : goal.returns-clause-named
returns-clause-named c =
    let range : MemoryRange = record { page = c.args.page; name = c.in_ok-name-2.name; origin = c.in_ok-origin.origin; length = c.in_ok-origin.length } in
    c.in_ok-is_fresh.ensures.named c.if-not-is_fresh.false (range_of range) refl
    (c.in_ok-name-2.ensures.ok ∙ c.as_str-2.ensures.value ∙ sym c.as_str.ensures.value)

pub extent_at-requires-clause-known : goal.extent_at-requires-clause-known
extent_at-requires-clause-known c =
    let after = c.take_name.new.ranges in
    let listed = subst (λ (list : Vec MemoryRange Global). KnowsWords c.args.ranges.now.taken.items (ranges_of list.items)) (sym c.take_name.ensures.list) c.requires.known in
    subst (λ (taken : Vec Bool Global). KnowsWords taken.items (ranges_of after.list.items)) (sym c.take_name.ensures.taken) listed

pub returns-clause-within : goal.returns-clause-within
returns-clause-within c = c.in_ok-origin.ensures.within
