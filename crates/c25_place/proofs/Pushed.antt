-- Sections that are not listed, one by one.
use Rattle.std.proofs.Common.{◌≡◌, ℕ, ◌+◌, ◌<◌, ◌≤◌, Bool, true, false, not, cond, List, [], ◌∷◌, ◌++◌, length, get_or, take, map, Some, None, IfSome, refl, sym, ap, subst, ◌∙◌, append_assoc}
use Rattle.std.specs.Borrow.{Bor}
use Rattle.std.specs.List.{list_any}
use Rattle.std.specs.Str.{bytes_eq}
use Rattle.std.proofs.lemmas.List.{map-append}
use Rattle.std.proofs.lemmas.List.Elements.{All-push}
use Rattle.c25_meaning_linking.specs.GoodMap.{unlisted_request, is_among, new_names}
use Rattle.c25_meaning_linking.specs.GoodMap as good
use Rattle.c25_meaning_objects.specs.Module.{Contents, SectionData}
use Rattle.c25_meaning_linking.specs.Place.{all_sections, is_section_named, is_there}
use Rattle.c25_meaning_linking.proofs.PlaceNames.{is_same}
use Rattle.c25_module.specs.View.{section_data}
use Rattle.c25_module.specs.declared.parts.Section.{Section}
use Rattle.c25_place.specs.Outputs.{output_of}
use Rattle.c25_place.specs.Requests.{request_by, unlisted, HasNames, HasPages}
use Rattle.c25_place.specs.View.{request_view, requests_view, sections_view}
use Rattle.c25_place.specs.declared.outputs.Output.{Output}
use Rattle.c25_place.specs.declared.requests.Request.{Request}
use Rattle.c25_place.proofs.Asked.{asked_by, name_new, name_seen, names_more, not_there_by}
use Rattle.c25_place.proofs.Listed.{mapped_more, any_at}

-- the names of sections
abbrev pub names_in : List (Bor Section) → List (List ℕ)
names_in sections = map (λ (s : SectionData). s.name) (sections_view sections)

pub names_in_more : (sections : List (Bor Section)) (i : ℕ) (s : Bor Section) (x : List ℕ) → i < length sections → s ≡ get_or sections i s → x ≡ (section_data s.now).name
    → names_in (take i sections) ++ x ∷ [] ≡ names_in (take (i + 1) sections)
names_in_more sections i s x lt is called =
    ap (λ n. names_in (take i sections) ++ n ∷ []) (called ∙ ap (λ (b : Bor Section). (section_data b.now).name) is)
    ∙ sym (map-append (λ (q : SectionData). q.name) (sections_view (take i sections)) (section_data (get_or sections i s).now ∷ []))
    ∙ ap (map (λ (q : SectionData). q.name)) (sym (mapped_more (λ (b : Bor Section). section_data b.now) sections i s lt))

-- the names seen
pub seen_next : (sections : List (Bor Section)) (i : ℕ) (s : Bor Section) (x : List ℕ) (listed seen after : List (List ℕ)) → i < length sections → s ≡ get_or sections i s → x ≡ (section_data s.now).name
    → HasNames seen (listed ++ names_in (take i sections)) → after ≡ cond (is_among x seen) seen (seen ++ x ∷ []) → HasNames after (listed ++ names_in (take (i + 1) sections))
seen_next sections i s x listed seen after lt is called has e =
    subst (HasNames after) (append_assoc listed (names_in (take i sections)) (x ∷ []) ∙ ap (λ ns. listed ++ ns) (names_in_more sections i s x lt is called))
    (names_more seen after (listed ++ names_in (take i sections)) x has e)

-- a new name
pub unlisted_next : (modules : List Contents) (sections : List (Bor Section)) (i : ℕ) (s : Bor Section) (x : List ℕ) (listed seen : List (List ℕ)) (start : List good.Request) (old new : List Request) (r : Request) (o : Output)
    → i < length sections → s ≡ get_or sections i s → x ≡ (section_data s.now).name → HasNames seen (listed ++ names_in (take i sections)) → is_among x seen ≡ false
    → requests_view modules old ≡ start ++ map (unlisted_request modules) (new_names listed (names_in (take i sections))) → new ≡ old ++ r ∷ [] → request_view modules r ≡ request_by modules o (unlisted x) → Some o ≡ output_of x (all_sections modules)
    → requests_view modules new ≡ start ++ map (unlisted_request modules) (new_names listed (names_in (take (i + 1) sections)))
unlisted_next modules sections i s x listed seen start old new r o lt is called has fresh before e made found =
    let names : List (List ℕ) = names_in (take i sections) in
    let more : List good.Request = map (unlisted_request modules) (new_names listed names) in
    ap (requests_view modules) e ∙ map-append (request_view modules) old (r ∷ []) ∙ ap (λ zs. zs ++ request_view modules r ∷ []) before ∙ append_assoc start more (request_view modules r ∷ [])
    ∙ ap (λ q. start ++ (more ++ q ∷ [])) (made ∙ asked_by modules o (unlisted x) (sym found))
    ∙ ap (λ zs. start ++ zs) (sym (map-append (unlisted_request modules) (new_names listed names) (x ∷ [])))
    ∙ ap (λ ns. start ++ map (unlisted_request modules) ns) (sym (name_new listed names x (sym (has x) ∙ fresh)))
    ∙ ap (λ ns. start ++ map (unlisted_request modules) (new_names listed ns)) (names_in_more sections i s x lt is called)

-- a name that was seen
pub unlisted_same : (modules : List Contents) (sections : List (Bor Section)) (i : ℕ) (s : Bor Section) (x : List ℕ) (listed seen : List (List ℕ)) (start requests : List good.Request)
    → i < length sections → s ≡ get_or sections i s → x ≡ (section_data s.now).name → HasNames seen (listed ++ names_in (take i sections)) → is_among x seen ≡ true
    → requests ≡ start ++ map (unlisted_request modules) (new_names listed (names_in (take i sections))) → requests ≡ start ++ map (unlisted_request modules) (new_names listed (names_in (take (i + 1) sections)))
unlisted_same modules sections i s x listed seen start requests lt is called has known before =
    before ∙ ap (λ ns. start ++ map (unlisted_request modules) ns) (sym (name_seen listed (names_in (take i sections)) x (sym (has x) ∙ known)))
    ∙ ap (λ ns. start ++ map (unlisted_request modules) (new_names listed ns)) (names_in_more sections i s x lt is called)

-- a section is one of the modules'
pub section_is_there : (modules : List Contents) (sections : List (Bor Section)) (i : ℕ) (s : Bor Section) (x : List ℕ) → i < length sections → s ≡ get_or sections i s → x ≡ (section_data s.now).name
    → sections_view sections ≡ all_sections modules → None ≡ output_of x (all_sections modules) → ⊥
section_is_there modules sections i s x lt is called are none =
    let here : true ≡ is_section_named x (section_data (get_or sections i s).now) = sym (is_same x) ∙ ap (bytes_eq x) (called ∙ ap (λ (b : Bor Section). (section_data b.now).name) is) in
    let there : true ≡ list_any (is_section_named x) (sections_view sections) = any_at (is_section_named x) (λ (b : Bor Section). section_data b.now) sections i s lt here in
    let not_there : is_there x modules ≡ false = not_there_by modules x (sym none) in
    let both : true ≡ false = there ∙ ap (list_any (is_section_named x)) are ∙ not_there in
    absurd cc

pub pages_pushed : (old new : List Request) (r : Request) → HasPages old → new ≡ old ++ r ∷ [] → r.page ≡ None → HasPages new
pages_pushed old new r pages e none =
    subst HasPages (sym e) (All-push (λ (q : Request). IfSome q.page (λ n. n ≤ 1)) old r pages (subst (λ p. IfSome p (λ n. n ≤ 1)) (sym none) tt))

pub unnot_true : (b t : Bool) → t ≡ not b → t ≡ true → b ≡ false
unnot_true true t e f = absurd cc
unnot_true false t e f = refl

pub unnot_false : (b t : Bool) → t ≡ not b → t ≡ false → b ≡ true
unnot_false true t e f = refl
unnot_false false t e f = absurd cc
