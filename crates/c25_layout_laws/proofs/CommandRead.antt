-- The command file of parts lists a section for each of them, at its address.
use Rattle.std.proofs.Common.{◌≡◌, ℕ, zero, suc, ◌+◌, ◌<◌, ◌≤◌, false, List, [], ◌∷◌, ◌++◌, length, map, codes, Option, Some, None, Result, Ok, refl, sym, ap, ◌∙◌, arith, append_assoc, append-nil}
use mathlib.Core.Path.{fun_ext}
use Rattle.std.specs.List.{flat_map, list_any}
use Rattle.std.specs.Str.{bytes_eq}
use Rattle.c25_layout.specs.Layout.{Follow, rows_words}
use Rattle.c25_layout.specs.SourceText.{command_text, load_text, place_line, run_at_text}
use Rattle.c25_layout.specs.declared.layout.Part.{Part}
use Rattle.c25_meaning_common.specs.Results.{◌>>=◌, told}
use Rattle.c25_meaning_common.specs.declared.placed.Placed.{Placed}
use Rattle.c25_meaning_linking.specs.Command.{At, CommandData, PlacingData, nothing}
use Rattle.c25_meaning_linking.specs.CommandGrammar.{Reading, begins, number_at, page_number_at, repeated, wanted}
use Rattle.c25_meaning_linking.specs.CommandSections.{contents_at, is_placing, more_placings, place_at, placing_at, run_at, section_page_at, sections_at, target_at}
use Rattle.c25_meaning_linking.specs.CommandText.{command_at, command_of, part_in, sections_in}
use Rattle.c25_meaning_linking.specs.CommandTokens.{Token, end_at, lexeme, scan, tokens}
use Rattle.c25_meaning_linking.specs.declared.command_fault.CommandFault.{CommandFault}
use Rattle.c25_meaning_linking.specs.declared.command_token.Keyword.TheVariants as keyword
use Rattle.c25_meaning_linking.specs.declared.command_token.Kind.TheVariants as kind
use Rattle.c25_meaning_linking.specs.declared.command_token.Sign.TheVariants as sign
use Rattle.c25_meaning_linking.specs.declared.command_token.Want.TheVariants as want
use Rattle.c25_layout_laws.proofs.CommandTokens.{RunFits, Unit_, keyword_sections, is_feed, is_open, line_units, line_units_are, scanned, toks, unit_texts}
use Rattle.c25_layout_laws.proofs.PartsDone.{differ, one_address}
use Rattle.c25_layout_laws.specs.Listed.{command_for, placing_of, section_of}

-- where pieces end
abbrev ends : ℕ → List Unit_ → ℕ
ends at [] = at
ends at (u ∷ us) = ends (at + length u.text) us

-- ---- one line

line_placed : (p : Part) (o : Option ℕ) → p.run ≡ o → (before : List PlacingData) (at : ℕ) (later : ℕ → List Token) → list_any (is_placing (section_of p.address)) before ≡ false
    → ((k : ℕ) → begins (want.Sign sign.Comma) (later k) ≡ false) → ((k : ℕ) → begins (want.Keyword keyword.Run) (later k) ≡ false)
    → more_placings before (toks at (line_units (record p { run = o })) later) ≡ Ok (before ++ record { name = section_of p.address; target = At p.address; page = Some 0; run = o } ∷ [], later (ends at (line_units (record p { run = o }))))
unfolding more_placings placing_at contents_at target_at place_at section_page_at run_at number_at page_number_at wanted
line_placed p None is before at later fresh no_comma no_run = rw (fresh, no_comma _, no_run _) refl
line_placed p (Some run) is before at later fresh no_comma no_run = rw (fresh, no_comma _) refl

-- ---- all lines

abbrev line_toks : ℕ → List Part → (ℕ → List Token) → List Token
line_toks at [] later = later at
line_toks at (p ∷ parts) later = toks at (line_units p) (λ k. line_toks k parts later)

abbrev close_at : (ℕ → List Token) → ℕ → List Token
close_at rest at = record { kind = kind.Sign sign.CloseBrace; place = at; text = [] } ∷ rest (at + 1)

no_comma_there : (parts : List Part) (rest : ℕ → List Token) (at : ℕ) → begins (want.Sign sign.Comma) (line_toks at parts (close_at rest)) ≡ false
no_comma_there [] rest at = refl
no_comma_there (p ∷ parts) rest at = refl

no_run_there : (parts : List Part) (rest : ℕ → List Token) (at : ℕ) → begins (want.Keyword keyword.Run) (line_toks at parts (close_at rest)) ≡ false
no_run_there [] rest at = refl
no_run_there (p ∷ parts) rest at = refl

not_closed : (p : Part) (at : ℕ) (later : ℕ → List Token) → begins (want.Sign sign.CloseBrace) (toks at (line_units p) later) ≡ false
not_closed p at later = refl

-- the sections so far are those of parts before an address
abbrev AreBelow : ℕ → List PlacingData → Type 0
AreBelow from [] = Unit {0}
AreBelow from (q ∷ qs) = ((a : ℕ) × (a < from) × (a < 65536) × (q.name ≡ section_of a)) × AreBelow from qs

below_more : (from next : ℕ) (qs : List PlacingData) → from ≤ next → AreBelow from qs → AreBelow next qs
below_more from next [] le h = tt
below_more from next (q ∷ qs) le h = let one = h.0.1 in ((h.0.0, omega (arith, one, le), h.0.2, h.0.3), below_more from next qs le h.1)

below_push : (from a : ℕ) (qs : List PlacingData) (q : PlacingData) → a < from → a < 65536 → q.name ≡ section_of a → AreBelow from qs → AreBelow from (qs ++ q ∷ [])
below_push from a [] q less small e h = ((a, less, small, e), tt)
below_push from a (r ∷ qs) q less small e h = (h.0, below_push from a qs q less small e h.1)

fresh : (a from : ℕ) (qs : List PlacingData) → from ≤ a → a < 65536 → AreBelow from qs → list_any (is_placing (section_of a)) qs ≡ false
fresh a from [] le small h = refl
fresh a from (q ∷ qs) le small h =
    let other : bytes_eq q.name (section_of a) ≡ false = differ q.name (section_of a) (λ same. let e = one_address h.0.0 a h.0.2 small (sym h.0.3 ∙ same) in let less = h.0.1 in omega (arith, e, less, le)) in
    rw other (fresh a from qs le small h.1)

lines_placed : (parts : List Part) (from n : ℕ) (before : List PlacingData) (at : ℕ) (rest : ℕ → List Token) → length parts ≤ n → Follow from parts → AreBelow from before
    → (k : ℕ) × (repeated (want.Sign sign.CloseBrace) more_placings n before (line_toks at parts (close_at rest)) ≡ Ok (before ++ map placing_of parts, close_at rest k))
unfolding repeated
lines_placed [] from zero before at rest room follow below = (at, ap (λ (qs : List PlacingData). Ok (qs, close_at rest at)) (sym (append-nil before)))
lines_placed [] from (suc n) before at rest room follow below = (at, ap (λ (qs : List PlacingData). Ok (qs, close_at rest at)) (sym (append-nil before)))
lines_placed (p ∷ parts) from zero before at rest room follow below = absurd (omega (arith, room))
lines_placed (p ∷ parts) from (suc n) before at rest room (low, some, inside, follow) below =
    let small : p.address < 65536 = omega (arith, some, inside) in
    let next = p.address + length (rows_words p.rows.items) in
    let one = line_placed p p.run refl before at (λ k. line_toks k parts (close_at rest)) (fresh p.address from before low small below) (no_comma_there parts rest) (no_run_there parts rest) in
    let below_next = below_push next p.address before (placing_of p) (omega (arith, some)) small refl (below_more from next before (omega (arith, low)) below) in
    let others = lines_placed parts next n (before ++ placing_of p ∷ []) (ends at (line_units p)) rest (omega (arith, room)) follow below_next in (
      others.0,
      ap (λ r. r >>= λ next. repeated (want.Sign sign.CloseBrace) more_placings n next.0 next.1) one ∙ others.1 ∙ ap (λ (qs : List PlacingData). Ok (qs, close_at rest others.0)) (append_assoc before (placing_of p ∷ []) (map placing_of parts)),
    )

line_some : (p : Part) (o : Option ℕ) (at : ℕ) (later : ℕ → List Token) (n : ℕ) → ((k : ℕ) → n ≤ length (later k)) → suc n ≤ length (toks at (line_units (record p { run = o })) later)
line_some p None at later n each = let some = each (ends at (line_units (record p { run = None }))) in omega (arith, some)
line_some p (Some run) at later n each = let some = each (ends at (line_units (record p { run = Some run }))) in omega (arith, some)

lines_some : (parts : List Part) (at : ℕ) (later : ℕ → List Token) → length parts ≤ length (line_toks at parts later)
lines_some [] at later = omega arith
lines_some (p ∷ parts) at later = line_some p p.run at (λ k. line_toks k parts later) (length parts) (λ k. lines_some parts k later)

-- ---- the command

sections_read : (parts : List Part) (at place : ℕ) (rest : ℕ → List Token) → Follow 0 parts
    → (k : ℕ) × (sections_at (record { kind = kind.Sign sign.OpenBrace; place = place; text = [] } ∷ line_toks at parts (close_at rest)) ≡ Ok (map placing_of parts, rest k))
unfolding sections_at wanted
sections_read parts at place rest follow =
    let all = lines_placed parts 0 (length (line_toks at parts (close_at rest))) [] at rest (lines_some parts at (close_at rest)) follow tt in
    (all.0 + 1, ap (λ r. r >>= λ all. wanted (want.Sign sign.CloseBrace) all.1 >>= λ end. Ok (all.0, end.1)) all.1)

abbrev only_end : ℕ → List Token
only_end at = end_at (at + 1) ∷ []

part_read : (parts : List Part) (at place brace : ℕ) → Follow 0 parts
    → (k : ℕ) × (part_in nothing (record { kind = kind.Keyword keyword.Sections; place = place; text = codes "SECTIONS" } ∷ record { kind = kind.Sign sign.OpenBrace; place = brace; text = [] } ∷ line_toks at parts (close_at only_end))
    ≡ Ok (command_for parts, only_end k))
unfolding part_in sections_in
part_read parts at place brace follow =
    let all = sections_read parts at brace only_end follow in
    (all.0, ap (λ r. r >>= λ placings. Ok (record nothing { sections = Some placings.0 }, placings.1)) all.1)

ended : (n : ℕ) (c : CommandData) (k : ℕ) → repeated want.End part_in n c (only_end k) ≡ Ok (c, only_end k)
unfolding repeated
ended zero c k = refl
ended (suc n) c k = refl

abbrev all_toks : List Part → ℕ → ℕ → ℕ → List Token
all_toks parts at place brace =
    record { kind = kind.Keyword keyword.Sections; place = place; text = codes "SECTIONS" } ∷ record { kind = kind.Sign sign.OpenBrace; place = brace; text = [] } ∷ line_toks at parts (close_at only_end)

abbrev after_one : ℕ → CommandData × List Token → Reading CommandData
after_one n next = repeated want.End part_in n next.0 next.1

abbrev finish : CommandData × List Token → Reading CommandData
finish all = wanted want.End all.1 >>= λ end. Ok (all.0, end.1)

abbrev command_in : CommandData × List Token → Result CommandData (Placed ℕ CommandFault)
command_in all = Ok all.0

repeated_all : (parts : List Part) (at place brace n : ℕ) → Follow 0 parts → (k : ℕ) × (repeated want.End part_in (suc n) nothing (all_toks parts at place brace) ≡ Ok (command_for parts, only_end k))
unfolding repeated
repeated_all parts at place brace n follow =
    let one = part_read parts at place brace follow in
    (one.0, ap (λ (r : Reading CommandData). r >>= after_one n) one.1 ∙ ended n (command_for parts) one.0)

finished : (c : CommandData) (k : ℕ) → finish (c, only_end k) ≡ Ok (c, [])
unfolding wanted
finished c k = refl

command_tokens : (parts : List Part) (at place brace : ℕ) → Follow 0 parts → command_at (all_toks parts at place brace) ≡ Ok (command_for parts)
unfolding command_at
command_tokens parts at place brace follow =
    let all = repeated_all parts at place brace (suc (length (line_toks at parts (close_at only_end)))) follow in
    ap (λ (r : Reading CommandData). (r >>= finish) >>= command_in) all.1 ∙ ap (λ (r : Reading CommandData). r >>= command_in) (finished (command_for parts) all.0)

-- ---- the text

line_is : (p : Part) (o : Option ℕ) → p.run ≡ o → place_line (record p { run = o }) ≡ unit_texts (line_units (record p { run = o }))
unfolding load_text run_at_text
line_is p None is = refl
line_is p (Some run) is = refl

-- the parts' addresses and run addresses have 16 bits
abbrev pub AllFit : List Part → Type 0
AllFit [] = Unit {0}
AllFit (p ∷ parts) = (p.address < 65536) × RunFits p.run × AllFit parts

lines_scanned : (parts : List Part) (rest : List ℕ) (at : ℕ) → AllFit parts → scan 0 at (flat_map place_line parts ++ rest) ≡ line_toks at parts (λ k. scan 0 k rest)
lines_scanned [] rest at h = refl
lines_scanned (p ∷ parts) rest at h =
    let more = flat_map place_line parts ++ rest in
    ap (scan 0 at) (append_assoc (place_line p) (flat_map place_line parts) rest ∙ ap (λ (xs : List ℕ). xs ++ more) (line_is p p.run refl))
    ∙ scanned (line_units p) more at (line_units_are p more h.0 h.1)
    ∙ ap (toks at (line_units p)) (fun_ext (λ k. lines_scanned parts rest k h.2))

abbrev feed : Unit_
feed = record { text = 10 ∷ []; token = None }

abbrev head_units : List Unit_
head_units = record { text = codes "SECTIONS"; token = Some (kind.Keyword keyword.Sections, codes "SECTIONS") } ∷ feed ∷ record { text = 123 ∷ []; token = Some (kind.Sign sign.OpenBrace, []) } ∷ feed ∷ []

abbrev tail_units : List Unit_
tail_units = record { text = 125 ∷ []; token = Some (kind.Sign sign.CloseBrace, []) } ∷ feed ∷ []

text_is : (parts : List Part) → command_text parts ≡ unit_texts head_units ++ (flat_map place_line parts ++ unit_texts tail_units)
text_is parts = append_assoc (codes "SECTIONS\n{\n") (flat_map place_line parts) (codes "}\n")

tail_scanned : (at : ℕ) → scan 0 at (unit_texts tail_units) ≡ close_at only_end at
unfolding scan lexeme
tail_scanned at = refl

head_scanned : (rest : List ℕ) → scan 0 0 (unit_texts head_units ++ rest) ≡ toks 0 head_units (λ k. scan 0 k rest)
head_scanned rest = scanned head_units rest 0 (keyword_sections _ refl, (is_feed _, (is_open _, (is_feed _, tt))))

tokens_are : (parts : List Part) → AllFit parts → tokens (command_text parts) ≡ all_toks parts 11 0 9
tokens_are parts fit =
    ap (scan 0 0) (text_is parts)
    ∙ head_scanned (flat_map place_line parts ++ unit_texts tail_units)
    ∙ ap (toks 0 head_units) (fun_ext (λ k. lines_scanned parts (unit_texts tail_units) k fit ∙ ap (line_toks k parts) (fun_ext tail_scanned)))

pub command_read : (parts : List Part) → Follow 0 parts → AllFit parts → command_of (command_text parts) ≡ Ok (command_for parts)
command_read parts follow fit = ap (told _) (ap command_at (tokens_are parts fit) ∙ command_tokens parts 11 0 9 follow)
