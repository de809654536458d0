-- Sizes of sections are bounded.
use Rattle.std.proofs.Common.{◌≡◌, Bool, true, false, ◌||◌, cond, Option, Some, ℕ, ◌+◌, ◌<◌, ◌≤◌, List, ◌++◌, length, get_or, take, map, filter, unwrap_or, refl, sym, ap, subst, ◌∙◌, arith, All}
use Rattle.std.specs.Borrow.{Bor}
use Rattle.std.specs.Str.{bytes_eq}
use Rattle.std.proofs.lemmas.List.{length-map, length-take}
use Rattle.std.proofs.lemmas.List.Elements.{All-append, All-map, All-take}
use Rattle.c25_meaning_linking.specs.Command.{PlacingData}
use Rattle.c25_meaning_linking.specs.GoodMap.{requests, request, listed_request, unlisted_request, comes_first, comes_later, unlisted_names}
use Rattle.c25_meaning_linking.specs.GoodMap as good
use Rattle.c25_meaning_objects.specs.Module.{Contents, SectionData, body_size, has_words}
use Rattle.c25_meaning_linking.specs.Place.{all_sections, size_of_parts}
use Rattle.c25_module.specs.View.{section_data}
use Rattle.c25_module.specs.declared.parts.Section.{Section}
use Rattle.c25_place.specs.Outputs.{AreSmall, output_of, size_of_sections}
use Rattle.c25_place.specs.View.{request_view, requests_view, sections_view}
use Rattle.c25_place.specs.declared.outputs.Output.{Output}
use Rattle.c25_place.specs.declared.requests.Request.{Request}
use Rattle.c25_place.proofs.Listed.{unmapped, mapped_more}
use Rattle.c25_place.proofs.Sized.{nothing, sizes_small, output_small, with_section, output_more}

-- a request has the size of the sections of its name
abbrev IsSized : List Contents → good.Request → Type 0
IsSized modules r = r.size ≡ size_of_parts r.name modules

all_sized : (modules : List Contents) (placings : List PlacingData) → All (IsSized modules) (requests modules placings)
all_sized modules placings =
    let first = map (listed_request modules) (filter (comes_first modules) placings) in
    let later = map (listed_request modules) (filter (comes_later modules) placings) in
    let others = map (unlisted_request modules) (unlisted_names modules placings) in
    All-append (IsSized modules) (first ++ later) others
    (All-append (IsSized modules) first later (All-map (IsSized modules) (listed_request modules) (filter (comes_first modules) placings) (λ k d lt. refl))
    (All-map (IsSized modules) (listed_request modules) (filter (comes_later modules) placings) (λ k d lt. refl)))
    (All-map (IsSized modules) (unlisted_request modules) (unlisted_names modules placings) (λ k d lt. refl))

small_view : (sections : List (Bor Section)) → AreSmall sections → All (λ s. body_size s.body ≤ 65536) (sections_view sections)
small_view sections small = All-map (λ s. body_size s.body ≤ 65536) (λ (b : Bor Section). section_data b.now) sections small

pub sizes_bounded : (modules : List Contents) (placings : List PlacingData) (sections : List (Bor Section)) (rs : List Request) → AreSmall sections → sections_view sections ≡ all_sections modules
    → length sections < 18446744073709551616 → requests_view modules rs ≡ requests modules placings → All (λ r. r.size < 1267650600228229401496703205376) rs
sizes_bounded modules placings sections rs small are few is = λ k d lt.
    let r : Request = get_or rs k d in
    let size : r.size ≡ size_of_parts r.name.now modules = unmapped (IsSized modules) (request_view modules) rs (subst (All (IsSized modules)) (sym is) (all_sized modules placings)) k d lt in
    let same : size_of_parts r.name.now modules ≡ size_of_sections r.name.now (sections_view sections) = ap (size_of_sections r.name.now) (sym are) in
    let bound = sizes_small r.name.now (sections_view sections) (small_view sections small) in
    let count : length (sections_view sections) ≡ length sections = length-map sections (λ (b : Bor Section). section_data b.now) in
    omega (arith, size, same, bound, count, few)

-- the sums of sections, with one section more
pub sum_bounded : (sections : List (Bor Section)) (i : ℕ) (name : List ℕ) (before : Output) (n : ℕ) → AreSmall sections → length sections < 18446744073709551616 → before ≡ unwrap_or (output_of name (sections_view (take i sections))) nothing → n ≤ 65536
    → before.size + n < 340282366920938463463374607431768211456
sum_bounded sections i name before n small few is le =
    let so_far = take i sections in
    let bound = output_small name (sections_view so_far) (small_view so_far (All-take (λ (b : Bor Section). body_size (section_data b.now).body ≤ 65536) i sections small)) in
    let size : before.size ≡ (unwrap_or (output_of name (sections_view so_far)) nothing).size = ap (λ (o : Output). o.size) is in
    let count : length (sections_view so_far) ≡ length so_far = length-map so_far (λ (b : Bor Section). section_data b.now) in
    let fewer = length-take i sections in
    omega (arith, size, bound, count, fewer, few, le)

-- a section more under its name
pub made_with : (before : Output) (s : SectionData) (n : ℕ) (flag : Bool) → n ≡ body_size s.body → before.initialised ≡ true → flag ≡ true → record { size = before.size + n; initialised = flag } ≡ with_section before s
made_with before s n flag is on e = λ j. record { size = before.size + is j; initialised = (e ∙ sym (ap (λ b. b || has_words s.body) on)) j }

pub made_by : (before : Output) (s : SectionData) (n : ℕ) (flag has : Bool) → n ≡ body_size s.body → before.initialised ≡ false → has ≡ has_words s.body → flag ≡ has → record { size = before.size + n; initialised = flag } ≡ with_section before s
made_by before s n flag has is off has_is e = λ j. record { size = before.size + is j; initialised = (e ∙ has_is ∙ sym (ap (λ b. b || has_words s.body) off)) j }

pub output_next : (name : List ℕ) (sections : List (Bor Section)) (i : ℕ) (item : Bor Section) (key : List ℕ) (found : Option Output) (before output : Output) → i < length sections → item ≡ get_or sections i item → key ≡ (section_data item.now).name
    → found ≡ output_of name (sections_view (take i sections)) → before ≡ unwrap_or (output_of key (sections_view (take i sections))) nothing → output ≡ with_section before (section_data item.now)
    → cond (bytes_eq key name) (Some output) found ≡ output_of name (sections_view (take (i + 1) sections))
output_next name sections i item key found before output lt is called found_is before_is made =
    (λ j. cond (bytes_eq (key_is j) name) (Some (output_is j)) (found_is j)) ∙ sym (output_more name ss s) ∙ ap (output_of name) (sym (mapped_more (λ (b : Bor Section). section_data b.now) sections i item lt))
  where
    ss : List SectionData
    ss = sections_view (take i sections)

    s : SectionData
    s = section_data (get_or sections i item).now

    item_is : section_data item.now ≡ s
    item_is = ap (λ (b : Bor Section). section_data b.now) is

    key_is : key ≡ s.name
    key_is = called ∙ ap (λ (x : SectionData). x.name) item_is

    base_is : before ≡ unwrap_or (output_of s.name ss) nothing
    base_is = before_is ∙ ap (λ n. unwrap_or (output_of n ss) nothing) key_is

    output_is : output ≡ with_section (unwrap_or (output_of s.name ss) nothing) s
    output_is = made ∙ (λ j. with_section (base_is j) (item_is j))

pub small_at : (sections : List (Bor Section)) (i : ℕ) (item : Bor Section) → AreSmall sections → i < length sections → item ≡ get_or sections i item → body_size (section_data item.now).body ≤ 65536
small_at sections i item small lt is = subst (λ (b : Bor Section). body_size (section_data b.now).body ≤ 65536) (sym is) (small i item lt)
