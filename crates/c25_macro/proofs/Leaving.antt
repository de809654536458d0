-- When a block can be left.
use Rattle.std.proofs.Common.{◌≡◌, ◌-◌, ◌≤◌, Bool, true, false, ◌||◌, List, [], ◌∷◌, ◌++◌, Option, Some, None, is_some, if◌then◌else◌, arith, drop, length, reverse, take, refl, ap, sym, ◌∙◌}
use Rattle.std.proofs.lemmas.List.{reverse-append, take_all}
use Rattle.std.specs.List.{list_any}
use Rattle.c25_meaning_expansion.specs.Expansion.{Config, Dictionary, Kind, LineOrEnd, SourceFrame, after_close, left_through, without_ended}
use Rattle.c25_macro.specs.SourceFrames.{can_leave, frames, kind_of, scope_of}
use Rattle.c25_macro.specs.declared.frames.Source.{Source}
use Rattle.c25_macro.proofs.Lists.{any_scopes}

-- a block can be left where it is found
pub leaves : (test : Kind → Bool) (lines : List LineOrEnd) (frame : SourceFrame) (outer : List SourceFrame) (names : Dictionary) (c : Config)
    → is_some (left_through test lines frame outer names c) ≡ can_leave test frame.kind outer
leaves test lines frame [] names c = refl
leaves test lines frame (f ∷ fs) names c = on (test frame.kind) (leaves test (after_close lines) f fs (without_ended frame.kind names) c)
  where
    on : (b : Bool) → is_some (left_through test (after_close lines) f fs (without_ended frame.kind names) c) ≡ can_leave test f.kind fs → is_some (if b then Some (record c { lines = after_close lines; frame = f; outer = fs; names = without_ended frame.kind names })
        else left_through test (after_close lines) f fs (without_ended frame.kind names) c) ≡ (b || can_leave test f.kind fs)
    on true h = refl
    on false h = h

frames-append : (xs ys : List Source) → frames (xs ++ ys) ≡ frames xs ++ frames ys
frames-append [] ys = refl
frames-append (x ∷ xs) ys = ap (λ fs. scope_of x.frame ∷ fs) (frames-append xs ys)

but_last : (test : Kind → Bool) (kind : Kind) (fs : List SourceFrame) (f : SourceFrame) → can_leave test kind (fs ++ f ∷ []) ≡ (test kind || list_any (λ g. test g.kind) fs)
but_last test kind [] f = refl
but_last test kind (g ∷ gs) f = ap (λ b. test kind || b) (but_last test g.kind gs f)

-- the outermost source can't be left
inner : (test : Kind → Bool) (kind : Kind) (source : Source) (sources : List Source)
    → can_leave test kind (frames (reverse (source ∷ sources))) ≡ (test kind || list_any (λ s. test (kind_of s.frame.kind)) sources)
inner test kind source sources =
    ap (λ ss. can_leave test kind (frames ss)) (reverse-append (source ∷ []) sources) ∙ ap (can_leave test kind) (frames-append (reverse sources) (source ∷ []))
    ∙ but_last test kind (frames (reverse sources)) (scope_of source.frame) ∙ ap (λ b. test kind || b) (any_scopes test sources)

pub inner_some : (test : Kind → Bool) (kind : Kind) (source : Source) (sources : List Source) → test kind ≡ true → can_leave test kind (frames (reverse (source ∷ sources))) ≡ true
inner_some test kind source sources h = inner test kind source sources ∙ ap (λ b. b || list_any (λ s. test (kind_of s.frame.kind)) sources) h

pub inner_none : (test : Kind → Bool) (kind : Kind) (source : Source) (sources : List Source) → test kind ≡ false
    → can_leave test kind (frames (reverse (source ∷ sources))) ≡ list_any (λ s. test (kind_of s.frame.kind)) sources
inner_none test kind source sources h = inner test kind source sources ∙ ap (λ b. b || list_any (λ s. test (kind_of s.frame.kind)) sources) h

-- where this kind does not pass, one of the sources inside the outermost must
pub inside : (test : Kind → Bool) (kind : Kind) (self sources items : List Source) (is found : Bool) → 1 ≤ length sources → sources ≡ items → self ≡ reverse items → is ≡ test kind → is ≡ false
    → found ≡ list_any (λ s. test (kind_of s.frame.kind)) (take (length sources - 1) (drop 1 sources)) → found ≡ can_leave test kind (frames self)
inside test kind self [] items is found few same view tested none h = absurd (omega (arith, few))
inside test kind self (x ∷ xs) items is found few same view tested none h =
    h ∙ ap (list_any (λ s. test (kind_of s.frame.kind))) (take_all (length (x ∷ xs) - 1) xs (omega arith))
    ∙ sym (ap (λ ss. can_leave test kind (frames ss)) (view ∙ ap reverse (sym same)) ∙ inner_none test kind x xs (sym tested ∙ none))

none_of : (o : Option Config) → is_some o ≡ false → o ≡ None
none_of None h = refl
none_of (Some c) h = absurd (cc)

-- a block that can't be left
pub none_leaves : (test : Kind → Bool) (lines : List LineOrEnd) (frame : SourceFrame) (outer : List SourceFrame) (names : Dictionary) (c : Config) (can : Bool)
    → can ≡ can_leave test frame.kind outer → can ≡ false → left_through test lines frame outer names c ≡ None
none_leaves test lines frame outer names c can is none = none_of (left_through test lines frame outer names c) (leaves test lines frame outer names c ∙ (sym is ∙ none))

-- a block that can be left is found
pub some_leaves : (test : Kind → Bool) (lines : List LineOrEnd) (frame : SourceFrame) (outer : List SourceFrame) (names : Dictionary) (c : Config) (can : Bool)
    → can ≡ can_leave test frame.kind outer → can ≡ true → left_through test lines frame outer names c ≡ None → ⊥
some_leaves test lines frame outer names c can is some none =
    let both : true ≡ is_some (left_through test lines frame outer names c) = sym some ∙ (is ∙ sym (leaves test lines frame outer names c)) in
    let never : true ≡ false = both ∙ ap is_some none in
    cc
