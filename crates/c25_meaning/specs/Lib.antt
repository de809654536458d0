-- The definitions of the processor, of instructions, of images, and of what all subjects share, under one
-- name for users of the repository.
pub use Rattle.c25_meaning_common.specs.Bytes
pub use Rattle.c25_meaning_common.specs.Digits
pub use Rattle.c25_meaning_common.specs.Faults
pub use Rattle.c25_meaning_common.specs.Fields
pub use Rattle.c25_meaning_common.specs.Items
pub use Rattle.c25_meaning_common.specs.Results
pub use Rattle.c25_meaning_instructions.specs.RelocatedInsn
pub use Rattle.c25_meaning_instructions.specs.Show
pub use Rattle.c25_meaning_instructions.specs.Spellings
pub use Rattle.c25_meaning_instructions.specs.Table
pub use Rattle.c25_meaning_image.specs.Marks
pub use Rattle.c25_meaning_image.specs.WordMap
pub use Rattle.c25_meaning_processor.specs.Arithmetic
pub use Rattle.c25_meaning_processor.specs.Effect
pub use Rattle.c25_meaning_processor.specs.FirstState
pub use Rattle.c25_meaning_processor.specs.Memory
pub use Rattle.c25_meaning_processor.specs.Operand
pub use Rattle.c25_meaning_processor.specs.Reset
pub use Rattle.c25_meaning_processor.specs.Run
pub use Rattle.c25_meaning_processor.specs.RunText
pub use Rattle.c25_meaning_processor.specs.State
pub use Rattle.c25_meaning_processor.specs.Statements
pub use Rattle.c25_meaning_processor.specs.Status
pub use Rattle.c25_meaning_processor.specs.Step
pub use Rattle.c25_meaning_processor.specs.WordStep
