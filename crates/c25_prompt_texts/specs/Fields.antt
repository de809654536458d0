-- The fields of the status words, each after its name (SPRU014, "Status Registers"; the line is this project's own).
use Rattle.std.specs.Prelude.{ℕ, ◌/◌, ◌%◌, List, [], ◌∷◌, ◌++◌, codes}
use Rattle.std.specs.Fmt.{decimal}
use Rattle.std.specs.List.{flat_map}
use Rattle.c25_meaning_processor.specs.declared.registers.Regs.{Regs}

-- the fields of ST0, each with its name: DP in bits 8-0, ARP 15-13, OV 12, OVM 11, INTM 9
abbrev pub st0_fields : ℕ → List (List ℕ × ℕ)
st0_fields st0 =
    (codes "DP ", st0 % 512) ∷ (codes " ARP ", st0 / 8192) ∷ (codes " OV ", st0 / 4096 % 2) ∷ (codes " OVM ", st0 / 2048 % 2)
    ∷ (codes " INTM ", st0 / 512 % 2) ∷ []

-- the fields of ST1 that computing uses, each with its name: C in bit 9, TC 11, SXM 10, PM 1-0, CNF 12, XF 4
abbrev pub st1_fields : ℕ → List (List ℕ × ℕ)
st1_fields st1 =
    (codes " C ", st1 / 512 % 2) ∷ (codes " TC ", st1 / 2048 % 2) ∷ (codes " SXM ", st1 / 1024 % 2) ∷ (codes " PM ", st1 % 4)
    ∷ (codes " CNF ", st1 / 4096 % 2) ∷ (codes " XF ", st1 / 16 % 2) ∷ []

-- the other fields of ST1: ARB in bits 15-13, HM 6, FSM 5, FO 3, TXM 2
abbrev pub other_fields : ℕ → List (List ℕ × ℕ)
other_fields st1 =
    (codes " ARB ", st1 / 8192) ∷ (codes " HM ", st1 / 64 % 2) ∷ (codes " FSM ", st1 / 32 % 2) ∷ (codes " FO ", st1 / 8 % 2)
    ∷ (codes " TXM ", st1 / 4 % 2) ∷ []

-- fields in decimal, each after its name
abbrev pub fields_text : List (List ℕ × ℕ) → List ℕ
fields_text fields = flat_map (λ f. f.0 ++ decimal f.1) fields

-- the line of all fields of the status words
unfoldable pub status_text : Regs → List ℕ
status_text r = fields_text (st0_fields r.st0) ++ fields_text (st1_fields r.st1) ++ fields_text (other_fields r.st1) ++ codes "\n"
