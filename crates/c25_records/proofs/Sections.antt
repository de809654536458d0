-- The payload of a section, and a whole record.
use Rattle.std.proofs.Common.{◌≡◌, ℕ, suc, ◌+◌, ◌^◌, ◌<◌, ◌≤◌, Bool, true, false, cond, ltb, eqb, List, [], ◌∷◌, ◌++◌, length, slice_index, take, drop, Option, Some, None, Result, Ok, Err, refl, sym, ap, subst, ◌∙◌, arith, inl, inr, ◌⊎◌}
use Rattle.std.specs.Int.{w16, w32, from_be_bytes, to_be_bytes}
use Rattle.std.specs.Option.{option_and_then, option_map}
use Rattle.std.specs.List.{flat_map, AllByRecursion}
use Rattle.std.proofs.lemmas.Bool.{ltb-false, le-ltb, eqb-true, eq-eqb}
use Rattle.std.proofs.lemmas.List.{take_at, drop_at, take-append-drop, length-append, length-take}
use Rattle.std.proofs.lemmas.List.Concat.{flat_map-cons}
use Rattle.std.proofs.lemmas.Nat.{be_bytes_2, from_be_bytes-to_be_bytes_2, from_be_bytes-to_be_bytes_4}
use Rattle.c25_meaning_objects.specs.declared.object.ObjectFault.{ObjectFault}
use Rattle.c25_meaning_objects.specs.declared.object.ObjectFault.TheVariants.{Short}
use Rattle.c25_meaning_objects.specs.Module.{SectionBody, Uninitialised, Initialised, SectionData, body_words, body_size}
use Rattle.c25_meaning_objects.specs.Records.{body_flag, body_bytes, section_payload, entry}
use Rattle.c25_meaning_objects.specs.RecordReading.{long_at, words_in, body_of, section_of, Record, record_at}
use Rattle.c25_records.proofs.Taken.{IsBytes, IsBytes-drop, IsBytes-take, one, four, drop_whole, and_then_some, mapped_some, guarded, unguarded, some_is, pair_fits}

chosen : {A : Type 0} (b : Bool) (x y z : A) → cond b x y ≡ z → ((b ≡ true) × (x ≡ z)) ⊎ ((b ≡ false) × (y ≡ z))
chosen true x y z e = inl (refl, e)
chosen false x y z e = inr (refl, e)

words_take : (bytes ws : List ℕ) → IsBytes bytes → words_in bytes ≡ Some ws → bytes ≡ flat_map (to_be_bytes w16) ws
unfolding words_in
words_take [] ws fits e = subst (λ (v : List ℕ). [] ≡ flat_map (to_be_bytes w16) v) (some_is [] ws e) refl
words_take (high ∷ []) ws fits e = absurd cc
words_take (high ∷ low ∷ rest) ws fits e =
    let m = mapped_some (λ words. from_be_bytes w16 (high ∷ low ∷ []) ∷ words) (words_in rest) ws e in
    let others = words_take rest m.0 (λ i. fits (suc (suc i))) m.1 in
    let cells : to_be_bytes w16 (from_be_bytes w16 (high ∷ low ∷ [])) ≡ high ∷ low ∷ [] = be_bytes_2 (high ∷ low ∷ []) _ refl (pair_fits high low (fits 0) (fits 1)) refl in
    let whole : flat_map (to_be_bytes w16) (from_be_bytes w16 (high ∷ low ∷ []) ∷ m.0) ≡ high ∷ low ∷ rest =
    flat_map-cons (to_be_bytes w16) (from_be_bytes w16 (high ∷ low ∷ [])) m.0 ∙ ap (λ (t : List ℕ). t ++ flat_map (to_be_bytes w16) m.0) cells ∙ ap (λ (t : List ℕ). high ∷ low ∷ t) (sym others) in
    subst (λ (v : List ℕ). high ∷ low ∷ rest ≡ flat_map (to_be_bytes w16) v) m.2 (sym whole)

words_again : (ws : List ℕ) → AllByRecursion (λ w. w < 2 ^ 16) ws → words_in (flat_map (to_be_bytes w16) ws) ≡ Some ws
unfolding words_in
words_again [] small = refl
words_again (w ∷ ws) small =
    ap words_in (flat_map-cons (to_be_bytes w16) w ws)
    ∙ ap (λ (o : Option (List ℕ)). option_map (λ words. from_be_bytes w16 (to_be_bytes w16 w) ∷ words) o) (words_again ws small.1)
    ∙ ap (λ (n : ℕ). Some (n ∷ ws)) (from_be_bytes-to_be_bytes_2 w small.0)

body_takes : (flag : ℕ) (bytes : List ℕ) (b : SectionBody) → IsBytes bytes → body_of flag bytes ≡ Some b → (flag ≡ body_flag b) × (bytes ≡ body_bytes b)
body_takes flag bytes b fits e =
    let g = unguarded (ltb (length bytes) 4) _ b e in
    let long : 4 ≤ length bytes = ltb-false _ _ g.0 in
    elim (chosen (eqb flag 0) _ _ (Some b) g.1) [
      | inl room ↦
          let h = guarded (eqb (length bytes) 4) (Some (Uninitialised (long_at bytes 0))) b room.1 in
          let exact : length bytes ≡ 4 = eqb-true _ _ h.0 in
          let size : to_be_bytes w32 (long_at bytes 0) ≡ bytes = ap (λ (t : List ℕ). to_be_bytes w32 (long_at bytes 0) ++ t) (sym (drop_whole 4 bytes exact)) ∙ four 0 bytes fits long in
          subst (λ (x : SectionBody). (flag ≡ body_flag x) × (bytes ≡ body_bytes x)) (some_is (Uninitialised (long_at bytes 0)) b h.1) (eqb-true _ _ room.0, sym size)
      | inr other ↦
          let h = guarded (eqb flag 1) _ b other.1 in
          let w = and_then_some (λ words. cond (eqb (length words) (long_at bytes 0)) (Some (Initialised words)) None) (words_in (drop 4 bytes)) b h.1 in
          let l = guarded (eqb (length w.0) (long_at bytes 0)) (Some (Initialised w.0)) b w.2 in
          let len : length w.0 ≡ long_at bytes 0 = eqb-true _ _ l.0 in
          let words = words_take (drop 4 bytes) w.0 (IsBytes-drop 4 bytes fits) w.1 in
          let whole : body_bytes (Initialised w.0) ≡ bytes = ap (λ (n : ℕ). to_be_bytes w32 n ++ flat_map (to_be_bytes w16) w.0) len ∙ ap (λ (t : List ℕ). to_be_bytes w32 (long_at bytes 0) ++ t) (sym words) ∙ four 0 bytes fits long in
          subst (λ (x : SectionBody). (flag ≡ body_flag x) × (bytes ≡ body_bytes x)) (some_is (Initialised w.0) b l.1) (eqb-true _ _ h.0, sym whole)
    ]

body_again : (b : SectionBody) → body_size b < 2 ^ 32 → AllByRecursion (λ w. w < 2 ^ 16) (body_words b) → body_of (body_flag b) (body_bytes b) ≡ Some b
body_again (Uninitialised size) lt small = ap (λ (n : ℕ). Some (Uninitialised n)) (from_be_bytes-to_be_bytes_4 size lt)
body_again (Initialised ws) lt small =
    let bytes = body_bytes (Initialised ws) in
    let len : length bytes ≡ 4 + length (flat_map (to_be_bytes w16) ws) = length-append (to_be_bytes w32 (length ws)) (flat_map (to_be_bytes w16) ws) in
    let long : ltb (length bytes) 4 ≡ false = le-ltb _ _ (omega arith) in
    let size : long_at bytes 0 ≡ length ws = from_be_bytes-to_be_bytes_4 (length ws) lt in
    let same : eqb (length ws) (long_at bytes 0) ≡ true = eq-eqb _ _ (sym size) in
    let found : option_and_then (λ words. cond (eqb (length words) (long_at bytes 0)) (Some (Initialised words)) None) (words_in (drop 4 bytes)) ≡ Some (Initialised ws) =
    ap (λ (o : Option (List ℕ)). option_and_then (λ words. cond (eqb (length words) (long_at bytes 0)) (Some (Initialised words)) None) o) (words_again ws small)
    ∙ ap (λ (t : Bool). cond t (Some (Initialised ws)) None) same in
    ap (λ (t : Bool). cond t None (option_and_then (λ words. cond (eqb (length words) (long_at bytes 0)) (Some (Initialised words)) None) (words_in (drop 4 bytes)))) long ∙ found

pub section_takes : (bytes : List ℕ) (s : SectionData) → IsBytes bytes → section_of bytes ≡ Some s → bytes ≡ section_payload s
unfolding section_of
section_takes bytes s fits e =
    let g = unguarded (ltb (length bytes) 2) _ s e in
    let long : 2 ≤ length bytes = ltb-false _ _ g.0 in
    let n = slice_index bytes 1 in
    let h = unguarded (ltb (length (drop 2 bytes)) n) _ s g.1 in
    let enough : n ≤ length (drop 2 bytes) = ltb-false _ _ h.0 in
    let m = mapped_some (λ body. record { name = take n (drop 2 bytes); body = body }) (body_of (slice_index bytes 0) (drop n (drop 2 bytes))) s h.1 in
    let b = body_takes (slice_index bytes 0) (drop n (drop 2 bytes)) m.0 (IsBytes-drop n (drop 2 bytes) (IsBytes-drop 2 bytes fits)) m.1 in
    let len : length (take n (drop 2 bytes)) ≡ n = omega (arith, length-take n (drop 2 bytes)) in
    let whole : section_payload (record { name = take n (drop 2 bytes); body = m.0 }) ≡ bytes =
    ap (λ (t : List ℕ). body_flag m.0 ∷ (length (take n (drop 2 bytes)) ∷ (take n (drop 2 bytes) ++ t))) (sym b.1)
    ∙ ap (λ (t : List ℕ). body_flag m.0 ∷ (length (take n (drop 2 bytes)) ∷ t)) (take-append-drop n (drop 2 bytes))
    ∙ ap (λ (k : ℕ). body_flag m.0 ∷ (k ∷ drop 2 bytes)) len
    ∙ ap (λ (t : List ℕ). body_flag m.0 ∷ t) (one 1 bytes (omega arith))
    ∙ ap (λ (k : ℕ). k ∷ drop 1 bytes) (sym b.0) ∙ one 0 bytes (omega arith) in
    subst (λ (x : SectionData). bytes ≡ section_payload x) m.2 (sym whole)

pub section_again : (s : SectionData) → body_size s.body < 2 ^ 32 → AllByRecursion (λ w. w < 2 ^ 16) (body_words s.body) → section_of (section_payload s) ≡ Some s
unfolding section_of
section_again s lt small =
    let bytes = section_payload s in
    let rest = s.name ++ body_bytes s.body in
    let long : ltb (length bytes) 2 ≡ false = le-ltb _ _ (omega arith) in
    let enough : ltb (length rest) (length s.name) ≡ false = le-ltb _ _ (omega (arith, length-append s.name (body_bytes s.body))) in
    let name : take (length s.name) rest ≡ s.name = take_at s.name (body_bytes s.body) (length s.name) refl in
    let behind : drop (length s.name) rest ≡ body_bytes s.body = drop_at s.name (body_bytes s.body) (length s.name) refl in
    let body : body_of (body_flag s.body) (drop (length s.name) rest) ≡ Some s.body = ap (λ (t : List ℕ). body_of (body_flag s.body) t) behind ∙ body_again s.body lt small in
    let found : option_map (λ body. record { name = take (length s.name) rest; body = body }) (body_of (body_flag s.body) (drop (length s.name) rest)) ≡ Some s =
    ap (λ (o : Option SectionBody). option_map (λ body. record { name = take (length s.name) rest; body = body }) o) body ∙ ap (λ (t : List ℕ). Some (record { name = t; body = s.body })) name in
    ap (λ (t : Bool). cond t None (cond (ltb (length rest) (length s.name)) None (option_map (λ body. record { name = take (length s.name) rest; body = body }) (body_of (body_flag s.body) (drop (length s.name) rest))))) long
    ∙ ap (λ (t : Bool). cond t None (option_map (λ body. record { name = take (length s.name) rest; body = body }) (body_of (body_flag s.body) (drop (length s.name) rest)))) enough ∙ found

-- ---- records

abbrev pub done : {A : Type 0} → A → Result A ObjectFault
done x = Ok x

pub ok_is : {A : Type 0} (x y : A) → done x ≡ done y → x ≡ y
ok_is x y e = cc

pub passed : {A : Type 0} (b : Bool) (d : ObjectFault) (r : Result A ObjectFault) (y : A) → cond b (Err d) r ≡ Ok y → (b ≡ false) × (r ≡ Ok y)
passed true d r y e = absurd cc
passed false d r y e = (refl, e)

pub record_takes : (bytes : List ℕ) (x : Record × List ℕ) → IsBytes bytes → record_at bytes ≡ Ok x → (bytes ≡ entry x.0.tag x.0.payload ++ x.1) × IsBytes x.0.payload × IsBytes x.1
unfolding record_at
record_takes bytes x fits e =
    let g = passed (ltb (length bytes) 5) Short _ x e in
    let long : 5 ≤ length bytes = ltb-false _ _ g.0 in
    let n = long_at bytes 1 in
    let h = passed (ltb (length (drop 5 bytes)) n) Short _ x g.1 in
    let enough : n ≤ length (drop 5 bytes) = ltb-false _ _ h.0 in
    let payload = take n (drop 5 bytes) in
    let rest = drop n (drop 5 bytes) in
    let len : length payload ≡ n = omega (arith, length-take n (drop 5 bytes)) in
    let made : Record × List ℕ = (record { tag = slice_index bytes 0; payload = payload }, rest) in
    let split : (slice_index bytes 0 ∷ (to_be_bytes w32 (length payload) ++ (payload ++ rest))) ≡ bytes =
    ap (λ (t : List ℕ). slice_index bytes 0 ∷ (to_be_bytes w32 (length payload) ++ t)) (take-append-drop n (drop 5 bytes))
    ∙ ap (λ (k : ℕ). slice_index bytes 0 ∷ (to_be_bytes w32 k ++ drop 5 bytes)) len
    ∙ ap (λ (t : List ℕ). slice_index bytes 0 ∷ t) (four 1 bytes fits long) ∙ one 0 bytes (omega arith) in
    let whole : bytes ≡ entry (slice_index bytes 0) payload ++ rest = sym split in
    subst (λ (y : Record × List ℕ). (bytes ≡ entry y.0.tag y.0.payload ++ y.1) × IsBytes y.0.payload × IsBytes y.1) (ok_is made x h.1)
    (whole, IsBytes-take n (drop 5 bytes) (IsBytes-drop 5 bytes fits), IsBytes-drop n (drop 5 bytes) (IsBytes-drop 5 bytes fits))

pub record_again : (tag : ℕ) (payload rest : List ℕ) → length payload < 2 ^ 32 → record_at (entry tag payload ++ rest) ≡ Ok (record { tag = tag; payload = payload }, rest)
unfolding record_at
record_again tag payload rest lt =
    let bytes = entry tag payload ++ rest in
    let n : long_at bytes 1 ≡ length payload = from_be_bytes-to_be_bytes_4 (length payload) lt in
    let long : ltb (length bytes) 5 ≡ false = le-ltb _ _ (omega arith) in
    let enough : ltb (length (payload ++ rest)) (long_at bytes 1) ≡ false = le-ltb _ _ (omega (arith, length-append payload rest)) in
    let found : done (record { tag = tag; payload = take (long_at bytes 1) (payload ++ rest) }, drop (long_at bytes 1) (payload ++ rest)) ≡ done (record { tag = tag; payload = payload }, rest) =
    ap (λ (k : ℕ). done (record { tag = tag; payload = take k (payload ++ rest) }, drop k (payload ++ rest))) n
    ∙ ap (λ (t : List ℕ). done (record { tag = tag; payload = t }, drop (length payload) (payload ++ rest))) (take_at payload rest (length payload) refl)
    ∙ ap (λ (t : List ℕ). done (record { tag = tag; payload = payload }, t)) (drop_at payload rest (length payload) refl) in
    ap (λ (b : Bool). cond b (Err Short) (cond (ltb (length (payload ++ rest)) (long_at bytes 1)) (Err Short) (Ok (record { tag = tag; payload = take (long_at bytes 1) (payload ++ rest) }, drop (long_at bytes 1) (payload ++ rest))))) long
    ∙ ap (λ (b : Bool). cond b (Err Short) (Ok (record { tag = tag; payload = take (long_at bytes 1) (payload ++ rest) }, drop (long_at bytes 1) (payload ++ rest)))) enough ∙ found
