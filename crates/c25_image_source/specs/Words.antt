-- The words of the files of an image.
use Rattle.std.specs.Prelude.{◌≡◌, ◌⊎◌, ℕ, ◌==◌, Bool, false, List, [], ◌∷◌, Result, Ok, Err, if◌then◌else◌, String}
use Rattle.std.specs.FinMap as finite
use Rattle.std.specs.Ordering.{nat_cmp}
use Rattle.std.specs.Str.{is_utf8}
use Rattle.std.specs.String.{string_bytes}
use Rattle.std.specs.declared.alloc.Global.{Global}
use Rattle.c25_binary.specs.Binary.{words_of_file, words_of_pair}
use Rattle.c25_binary.specs.declared.binary_fault.BinaryFault.{BinaryFault}
use Rattle.c25_chain.specs.declared.fault.ChainFault.TheVariants.{File, Hex}
use Rattle.c25_disk.specs.Held.{Held, IsAllOf}
use Rattle.c25_disk.specs.declared.fault.FileFault.TheVariants.{CannotRead}
use Rattle.c25_hex.specs.Hex.{HasWordsOf, bytes_given}
use Rattle.c25_image_source.specs.Faults.{IsUnread, image_fault}
use Rattle.c25_image_source.specs.declared.asked.ImageFiles.{ImageFiles}
use Rattle.c25_image_source.specs.declared.asked.ImageFiles.TheVariants as files
use Rattle.c25_image_source.specs.declared.fault.ImageFault.{ImageFault}
use Rattle.c25_image_source.specs.declared.fault.ImageFault.TheVariants as image
use Rattle.c25_meaning_common.specs.Results.{FailsBy, MeetsBy, told}
use Rattle.c25_meaning_common.specs.declared.failure.Failure.{Failure}
use Rattle.c25_rom.specs.declared.byte_order.ByteOrder.{ByteOrder}

-- words by their addresses
abbrev pub WordsMap : Type 0
WordsMap = finite.FinMap nat_cmp ℕ

-- what an answer has: words, or why there are none
abbrev pub Answer : Type 0 → Type 0
Answer A = Result A (Failure (ImageFault (String Global)))

-- ---- hex texts

-- the bytes that the lines of a hex text give by their addresses, or its first fault (80 to 89)
abbrev pub lines_given : List ℕ → Result (finite.FinMap nat_cmp ℕ) (ImageFault (List ℕ))
lines_given text = told (λ fault. image.Chain (Hex fault)) (bytes_given text)

-- the same of bytes, which are a text where they are UTF-8; else the file is not read (8)
abbrev pub text_given : (name bytes : List ℕ) → Result (finite.FinMap nat_cmp ℕ) (ImageFault (List ℕ))
text_given name bytes = if is_utf8 bytes then lines_given bytes else Err (image.Chain (File (record { place = name; fault = CannotRead })))

-- whether bytes are those of a hex text: they begin with a colon
abbrev pub is_hex : List ℕ → Bool
is_hex [] = false
is_hex (byte ∷ bytes) = byte == 58

-- the same of the bytes of a file, where they are those of a hex text
abbrev pub hex_given : (name bytes : List ℕ) → Result (finite.FinMap nat_cmp ℕ) (ImageFault (List ℕ))
hex_given name bytes = if is_hex bytes then text_given name bytes else Err (image.NoHex name)

-- an answer is the words of the bytes that are given, or the fault
abbrev pub AreHexWords : Result (finite.FinMap nat_cmp ℕ) (ImageFault (List ℕ)) → Answer WordsMap → Type 0
AreHexWords meant (Ok words) = (given : finite.FinMap nat_cmp ℕ) × (meant ≡ Ok given) × HasWordsOf given words
AreHexWords meant (Err failure) = FailsBy image_fault meant failure

-- ---- binary files

-- an answer is the words of binary files, or the fault, reported with this name
abbrev pub AreWords : (name : List ℕ) → Result WordsMap BinaryFault → Answer WordsMap → Type 0
AreWords name meant answer = MeetsBy image_fault (λ words. words) (told (λ fault. image.Binary (record { place = name; fault = fault })) meant) answer

-- ---- files on a disk

-- an answer is a failure of which this holds
abbrev pub FailsWith : {A : Type 0} → Answer A → (Failure (ImageFault (String Global)) → Type 0) → Type 0
FailsWith (Ok a) holds = ⊥
FailsWith (Err failure) holds = holds failure

-- what follows all the bytes of the file of this name, or that it cannot be read (8)
abbrev pub AfterFile : {A : Type 0} → Held → List ℕ → (List ℕ → Answer A → Type 0) → Answer A → Type 0
AfterFile held name next answer = FailsWith answer (IsUnread name) ⊎ ((bytes : List ℕ) × IsAllOf (held name) bytes × next bytes answer)

-- the words of a hex text
abbrev pub ReadsHex : Held → (name : List ℕ) → Answer WordsMap → Type 0
ReadsHex held name answer = AfterFile held name (λ bytes. AreHexWords (hex_given name bytes)) answer

-- the words of a binary file
abbrev pub ReadsBinary : Held → (name : List ℕ) → ByteOrder → Answer WordsMap → Type 0
ReadsBinary held name order answer = AfterFile held name (λ bytes. AreWords name (words_of_file order bytes)) answer

-- the words of these high bytes and the low bytes of a file
abbrev pub ReadsLow : Held → (high name : List ℕ) → Answer WordsMap → Type 0
ReadsLow held high name answer = AfterFile held name (λ low. AreWords name (words_of_pair high low)) answer

-- the words of a pair of files
abbrev pub ReadsPair : Held → (high low : List ℕ) → Answer WordsMap → Type 0
ReadsPair held high low answer = AfterFile held high (λ bytes. ReadsLow held bytes low) answer

-- the words of the files of an image, or why there are none
abbrev pub ReadsImage : Held → ImageFiles → Answer WordsMap → Type 0
ReadsImage held (files.Hex name) answer = ReadsHex held name.now answer
ReadsImage held (files.Binary name order) answer = ReadsBinary held name.now order answer
ReadsImage held (files.Pair high low) answer = ReadsPair held high.now low.now answer
