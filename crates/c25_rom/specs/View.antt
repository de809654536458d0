-- What this crate's types stand for among the definitions' data.
use Rattle.std.specs.Prelude.{ℕ, List}
use Rattle.std.specs.String.{string_bytes}
use Rattle.c25_rom.specs.declared.files.RomFile.{RomFile}

-- the name of a file and its bytes
abbrev pub contents_of : RomFile → List ℕ × List ℕ
contents_of file = (string_bytes file.name, file.bytes.items)
