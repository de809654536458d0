use Rattle.std.proofs.Common.{◌≡◌, drop, fold}
use Rattle.c25_listing.specs.Flags.{flags_of, with_flag}
use Rattle.c25_listing.proofs.flags.Flags.set_all.Given as goal

abbrev pub invariant-loop-relocation : goal.invariant-loop-relocation
invariant-loop-relocation l = fold with_flag (flags_of l.self) (drop l.relocation-index l.relocations) ≡ fold with_flag (flags_of l.initial.self) l.relocations
