use Rattle.std.proofs.Common.{◌∙◌}
use Rattle.c25_module.specs.View.{contents}
use Rattle.c25_listing.specs.Flags.{flags_of}
use Rattle.c25_listing.proofs.Flagged.{flagged}
use Rattle.c25_listing.proofs.printing.Marked.is_relocated.Goals as goal

pub returns : goal.returns
returns c = c.at.ensures ∙ flagged (contents c.args.self.now.parts.now) (flags_of c.args.self.now.flags) c.args.section c.args.offset c.args.self.now.told
