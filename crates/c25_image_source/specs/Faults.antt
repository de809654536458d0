-- Why an image has no source, and the line that reports it (this project's own).
use Rattle.std.specs.Prelude.{◌≡◌, ℕ, List, ◌++◌, codes, String}
use Rattle.std.specs.String.{string_bytes}
use Rattle.std.specs.declared.alloc.Global.{Global}
use Rattle.c25_binary.specs.declared.binary_fault.BinaryFault.{BinaryFault}
use Rattle.c25_binary.specs.declared.binary_fault.BinaryFault.TheVariants.{LengthsDiffer, OddLength, TooLong}
use Rattle.c25_binary.specs.Binary.{binary_name}
use Rattle.c25_chain.specs.FaultText.{refusal_text}
use Rattle.c25_chain.specs.Refusal.{refusal_of}
use Rattle.c25_chain.specs.declared.fault.ChainFault.TheVariants.{File}
use Rattle.c25_disk.specs.declared.fault.FileFault.{FileFault}
use Rattle.c25_disk.specs.declared.fault.FileFault.TheVariants.{CannotRead}
use Rattle.c25_image_source.specs.declared.fault.ImageFault.{ImageFault}
use Rattle.c25_image_source.specs.declared.fault.ImageFault.TheVariants as image
use Rattle.c25_meaning_common.specs.Digits.{four_digits}
use Rattle.c25_meaning_common.specs.Faults.{numbered, placed_text}
use Rattle.c25_meaning_common.specs.declared.failure.Failure.{Failure}
use Rattle.c25_meaning_common.specs.declared.failure.Failure.TheVariants as failure
use Rattle.c25_meaning_common.specs.declared.placed.Placed.{Placed}
use Rattle.c25_source.specs.declared.source.NotMade.{NotMade}
use Rattle.c25_source.specs.declared.source.NotMade.TheVariants.{LongName, TooManySections}

-- ---- what the code has

-- a fault with its name as bytes
abbrev pub image_fault : ImageFault (String Global) → ImageFault (List ℕ)
image_fault (image.Chain f) = image.Chain (refusal_of f)
image_fault (image.NoHex name) = image.NoHex (string_bytes name)
image_fault (image.Binary f) = image.Binary (record { place = string_bytes f.place; fault = f.fault })
image_fault (image.Hint line) = image.Hint line

-- a failure is this fault, unless memory ran out
abbrev pub IsImageFault : ImageFault (List ℕ) → Failure (ImageFault (String Global)) → Type 0
IsImageFault is (failure.NoMemory n) = Unit {0}
IsImageFault is (failure.Fault f) = image_fault f ≡ is

-- a failure is that the file of this name cannot be read (8), unless memory ran out
abbrev pub IsUnread : List ℕ → Failure (ImageFault (String Global)) → Type 0
IsUnread name failure = IsImageFault (image.Chain (File (record { place = name; fault = CannotRead }))) failure

-- a failure of a file as one of an image
abbrev pub IsToldOfFile : Failure (Placed (String Global) FileFault) → Failure (ImageFault (String Global)) → Type 0
IsToldOfFile (failure.NoMemory n) (failure.NoMemory m) = Unit {0}
IsToldOfFile (failure.NoMemory n) (failure.Fault r) = ⊥
IsToldOfFile (failure.Fault f) (failure.NoMemory m) = ⊥
IsToldOfFile (failure.Fault f) (failure.Fault r) = r ≡ image.Chain (File f)

-- ---- lines

-- the numbers of the faults of binary files
abbrev pub binary_number : BinaryFault → ℕ
binary_number OddLength = 93
binary_number LengthsDiffer = 94
binary_number TooLong = 96

-- the line of a file that is no hex text
abbrev pub no_hex_line : (name : List ℕ) → List ℕ
no_hex_line name = codes "dis: " ++ name ++ codes " is no hex text: --binary reads the bytes of words, and srec_cat makes one of S-records"

-- the line of a fault of binary files
abbrev pub binary_line : (name : List ℕ) → BinaryFault → List ℕ
binary_line name fault = name ++ codes ": " ++ numbered (binary_number fault) (binary_name fault)

-- the line of an image that comes to too many parts, of which the first one too many begins at an address
abbrev pub many_line : (address : ℕ) → List ℕ
many_line address = codes "image:" ++ four_digits address ++ codes ": 97 TooManySections"

-- the line of a name that is too long for the file of a source
abbrev pub long_name_line : List ℕ
long_name_line = codes "--source: 54 TooLarge"

-- the line of a fault of the files of an image or of its hints
abbrev pub image_line : ImageFault (List ℕ) → List ℕ
image_line (image.Chain f) = refusal_text f
image_line (image.NoHex name) = no_hex_line name
image_line (image.Binary f) = binary_line f.place f.fault
image_line (image.Hint line) = placed_text (codes "hints") line (numbered 92 (codes "BadHint"))

-- the line of why the words of an image have no source
abbrev pub not_made_line : NotMade → List ℕ
not_made_line (TooManySections address) = many_line address
not_made_line LongName = long_name_line
