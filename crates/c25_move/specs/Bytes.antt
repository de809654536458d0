-- The text that the bytes of an old file stand for.
use Rattle.std.specs.Prelude.{◌≡◌, ℕ, ◌-◌, ◌==◌, Bool, true, false, nat_lt, if◌then◌else◌, List, [], ◌∷◌, Option, Some, None, encode_utf8, slice_index, IsUtf8}
use Rattle.std.specs.List.{flat_map}
use Rattle.c25_move.specs.declared.code_page.CodePage.{CodePage}
use Rattle.c25_move.specs.declared.code_page.CodePage.TheVariants.{Cp437, Latin1}

-- the bytes before the first 1Ah, with which texts of DOS and CP/M end
unfoldable pub before_end : List ℕ → List ℕ
before_end [] = []
before_end (byte ∷ bytes) = if byte == 26 then [] else byte ∷ before_end bytes

-- the characters of the bytes 80h to FFh in code page 437
abbrev pub code_page_437 : List ℕ
code_page_437 =
    199 ∷ 252 ∷ 233 ∷ 226 ∷ 228 ∷ 224 ∷ 229 ∷ 231 ∷ 234 ∷ 235 ∷ 232 ∷ 239 ∷ 238 ∷ 236 ∷ 196 ∷ 197
    ∷ 201 ∷ 230 ∷ 198 ∷ 244 ∷ 246 ∷ 242 ∷ 251 ∷ 249 ∷ 255 ∷ 214 ∷ 220 ∷ 162 ∷ 163 ∷ 165 ∷ 8359 ∷ 402
    ∷ 225 ∷ 237 ∷ 243 ∷ 250 ∷ 241 ∷ 209 ∷ 170 ∷ 186 ∷ 191 ∷ 8976 ∷ 172 ∷ 189 ∷ 188 ∷ 161 ∷ 171 ∷ 187
    ∷ 9617 ∷ 9618 ∷ 9619 ∷ 9474 ∷ 9508 ∷ 9569 ∷ 9570 ∷ 9558 ∷ 9557 ∷ 9571 ∷ 9553 ∷ 9559 ∷ 9565 ∷ 9564 ∷ 9563 ∷ 9488
    ∷ 9492 ∷ 9524 ∷ 9516 ∷ 9500 ∷ 9472 ∷ 9532 ∷ 9566 ∷ 9567 ∷ 9562 ∷ 9556 ∷ 9577 ∷ 9574 ∷ 9568 ∷ 9552 ∷ 9580 ∷ 9575
    ∷ 9576 ∷ 9572 ∷ 9573 ∷ 9561 ∷ 9560 ∷ 9554 ∷ 9555 ∷ 9579 ∷ 9578 ∷ 9496 ∷ 9484 ∷ 9608 ∷ 9604 ∷ 9612 ∷ 9616 ∷ 9600
    ∷ 945 ∷ 223 ∷ 915 ∷ 960 ∷ 931 ∷ 963 ∷ 181 ∷ 964 ∷ 934 ∷ 920 ∷ 937 ∷ 948 ∷ 8734 ∷ 966 ∷ 949 ∷ 8745
    ∷ 8801 ∷ 177 ∷ 8805 ∷ 8804 ∷ 8992 ∷ 8993 ∷ 247 ∷ 8776 ∷ 176 ∷ 8729 ∷ 183 ∷ 8730 ∷ 8319 ∷ 178 ∷ 9632 ∷ 160 ∷ []

-- the character of a byte in code page 437
abbrev pub character_437 : ℕ → ℕ
character_437 byte = if nat_lt byte 128 then byte else slice_index code_page_437 (byte - 128)

-- the character of a byte in a code page: in Latin-1 that of its own number
abbrev pub character : CodePage → ℕ → ℕ
character Cp437 byte = character_437 byte
character Latin1 byte = byte

-- the text of bytes of a code page
abbrev pub text_of_code_page : CodePage → List ℕ → List ℕ
text_of_code_page page bytes = flat_map (λ byte. encode_utf8 (character page byte)) bytes

-- the text of bytes, and the code page by which it is read: none where they are UTF-8, else this one
abbrev pub IsDecoded : CodePage → (bytes text : List ℕ) → (used : Option CodePage) → Type 0
IsDecoded page bytes text None = IsUtf8 (before_end bytes) × (text ≡ before_end bytes)
IsDecoded page bytes text (Some used) = (used ≡ page) × ¬ (IsUtf8 (before_end bytes)) × (text ≡ text_of_code_page page (before_end bytes))
