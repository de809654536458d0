use Rattle.std.proofs.Common.{length, refl}
use Rattle.std.proofs.lemmas.Option.{slice_get_read}
use Rattle.c25_source.proofs.source.first_too_many.Goals as goal

pub returns-in-Some-clause-many : goal.returns-in-Some-clause-many
returns-in-Some-clause-many c =
    let found = c.in-Some.ensures.lookup in
    record { part = c.in-Some.part.now; there = slice_get_read c.args.parts.now (length c.args.parts.now) 254 c.in-Some.part.now refl found.3.0 found.1; begins = refl }

pub returns-in-None-clause-few : goal.returns-in-None-clause-few
returns-in-None-clause-few c = c.in-None.ensures.lookup.3
