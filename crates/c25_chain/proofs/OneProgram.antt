-- Sources and a command have at most one program.
use Rattle.std.proofs.Common.{◌≡◌, ℕ, List, subst}
use Rattle.c25_meaning_linking.specs.Command.{CommandData}
use Rattle.c25_meaning_expansion.specs.Files.{Files}
use Rattle.c25_meaning_linking.specs.Linking.{ImageData, IsProgram}
use Rattle.c25_meaning_objects.specs.Module.{Contents}
use Rattle.c25_chain.specs.Built.{IsBuilt}
use Rattle.c25_chain.specs.Linked.{IsLinkedUnder, LinkedTexts}
use Rattle.c25_chain.specs.Modules.{Modules}

-- modules under a command have one program
abbrev OneProgram : Type 0
OneProgram = (modules : List Contents) (command : CommandData) (image other : ImageData) → IsProgram modules command image → IsProgram modules command other → image ≡ other

linked_once : OneProgram → (modules : List Contents) (text : List ℕ) (image other : ImageData) (ts us : LinkedTexts) → IsLinkedUnder modules text image ts → IsLinkedUnder modules text other us → image ≡ other
linked_once one modules text image other ts us h k =
    let same : k.command ≡ h.command = let a = h.read in let b = k.read in cc in
    one modules h.command image other h.program (subst (λ (c : CommandData). IsProgram modules c other) same k.program)

-- whatever their texts
pub one_program : OneProgram → (files : Files) (names : List (List ℕ)) (command : List ℕ) (image other : ImageData) (ts us : LinkedTexts) (ls ms : List (List ℕ)) → IsBuilt files names command image ts ls → IsBuilt files names command other us ms → image ≡ other
one_program one files names command image other ts us ls ms b d =
    let same : d.all ≡ b.all = let x = b.assembled in let y = d.assembled in cc in
    linked_once one (b.all).modules command image other ts us b.linked (subst (λ (all : Modules). IsLinkedUnder all.modules command other us) same d.linked)
