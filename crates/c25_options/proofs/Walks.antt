-- What a walk without a fault keeps: a fact of the rows that each use without a fault and each default keeps.
use Rattle.std.proofs.Common.{◌≡◌, ℕ, Bool, cond, true, false, zero, suc, not, ◌&&◌, refl, ap, arith, length, drop, List, [], ◌∷◌, Option, Some, None, is_some}
use Rattle.std.specs.Prelude.{encode_utf8, slice_get}
use Rattle.std.specs.List.{AllByRecursion, find, fold}
use Rattle.std.specs.Option.{option_map_or}
use Rattle.std.specs.Str.{bytes_eq, chars}
use Rattle.clap.specs.Lexer.{long_of, short_of}
use Rattle.clap.specs.Walk.{Held, Names, Outcome, Row, Rule, Step, Text, Waiting, Walk, done, waits, plain, refused, idle, option, positional, next, trailing, subcommand, value, after_flag, after_step, arg_by_id, arg_by_index, arg_by_long, arg_by_short, attached_value, bundle_met, bundle_step, flag_met, has_long, has_short, is_pending, long_met, long_or_other, nothing_held, option_met, option_word, plain_word, pushed, reacted, rows_after, settled, settled_rows, short_met, short_or_plain, subcommand_met, subcommand_or_other, takes_several, takes_values, to_positional, used, used_by_id, walk, walk_from, walked, walked_from, with_default, word_met}
use Rattle.clap.specs.Simple.{Shape}
use Rattle.clap.specs.Kinds.{Kinds, or_else}
use Rattle.clap.specs.Faults.{bundle_step_fault, check_fault, defaults_fault, flag_word_fault, flags_fault, level_fault, long_fault, option_fault, other_fault, positional_fault, react_fault, settle_fault, short_fault, step_fault, stray_fault, turn_fault, use_fault, walk_fault, word_fault}
use Rattle.clap.specs.declared.error.kind.ErrorKind.TheVariants as kind

-- where two steps have no fault, neither has
pub none_of_both : (a b : Kinds) → or_else a b ≡ [] → (a ≡ []) × (b ≡ [])
none_of_both [] b e = (refl, e)
none_of_both (k ∷ ks) b e =
    let none : length (k ∷ ks) ≡ 0 = ap length e in
    absurd (omega arith)

-- where the argument has a default, the fact is kept with it
abbrev pub KeepsDefault : (List Row → Type 0) → Rule → Type 0
KeepsDefault Inv a = (rows : List Row) → Inv rows → Inv (with_default rows a)

module _ (s : Shape) (Inv : List Row → Type 0)
    (uses : (p : Rule → Bool) (a : Rule) → find p s.rules ≡ Some a → (values : List Text) (rows : List Row) → use_fault s.args_override_self a values rows ≡ [] → Inv rows → Inv (used a values rows))
  where
    used_by_id_keeps : (id : Text) (o : Option Rule) → find (λ a. bytes_eq a.id id) s.rules ≡ o → (values : List Text) (rows : List Row)
        → option_map_or (λ a. use_fault s.args_override_self a values rows) o [] ≡ [] → Inv rows → Inv (used_by_id o values rows)
    used_by_id_keeps id None is values rows e inv = inv
    used_by_id_keeps id (Some a) is values rows e inv = uses (λ a. bytes_eq a.id id) a is values rows e inv

    settle_keeps : (h : Held) → settle_fault s.rules s.args_override_self h ≡ [] → Inv h.rows → Inv (settled s.rules h).rows
    settle_keeps h e inv = go h.pending e
      where
        go : (p : Option (Text × List Text))
            → option_map_or (λ p. option_map_or (λ a. use_fault s.args_override_self a p.1 h.rows) (arg_by_id s.rules p.0) []) p [] ≡ []
            → Inv (settled_rows s.rules p h.rows)
        go None e = inv
        go (Some p) e = used_by_id_keeps p.0 (arg_by_id s.rules p.0) refl p.1 h.rows e inv

    react_keeps : (p : Rule → Bool) (a : Rule) → find p s.rules ≡ Some a → (values : List Text) (h : Held)
        → react_fault s.rules s.args_override_self a values h ≡ [] → Inv h.rows → Inv (reacted s.rules a values h).rows
    react_keeps p a is values h e inv =
        let parts = none_of_both (settle_fault s.rules s.args_override_self h) (use_fault s.args_override_self a values (settled s.rules h).rows) e in
        uses p a is values (settled s.rules h).rows parts.1 (settle_keeps h parts.0 inv)

    option_keeps : (p : Rule → Bool) (a : Rule) → find p s.rules ≡ Some a → (v : Option Text) (h : Held)
        → option_fault s.rules s.args_override_self a v h ≡ [] → Inv h.rows → Inv (option_met s.rules a v h).0.rows
    option_keeps p a is (Some v) h e inv = react_keeps p a is (v ∷ []) h e inv
    option_keeps p a is None h e inv = settle_keeps h e inv

    -- ---- flags

    flag_keeps : (p : Rule → Bool) (a : Rule) → find p s.rules ≡ Some a → (v : Option Text) (h : Held)
        → cond (is_some v) (kind.TooManyValues ∷ []) (react_fault s.rules s.args_override_self a [] h) ≡ [] → Inv h.rows → Inv (flag_met s.rules a v h).0.rows
    flag_keeps p a is (Some v) h e inv = inv
    flag_keeps p a is None h e inv = react_keeps p a is [] h e inv

    long_keeps : (p : Rule → Bool) (o : Option Rule) → find p s.rules ≡ o → (v : Option Text) (h : Held)
        → long_fault s.rules s.args_override_self o v h ≡ [] → Inv h.rows → Inv (long_met s.rules o v h).0.rows
    long_keeps p None is v h e inv = inv
    long_keeps p (Some a) is v h e inv = go (takes_values a) e
      where
        go : (b : Bool)
            → cond b (option_fault s.rules s.args_override_self a v h) (cond (is_some v) (kind.TooManyValues ∷ []) (react_fault s.rules s.args_override_self a [] h)) ≡ []
            → Inv (cond b (option_met s.rules a v h) (flag_met s.rules a v h)).0.rows
        go true e = option_keeps p a is v h e inv
        go false e = flag_keeps p a is v h e inv

    short_keeps : (p : Rule → Bool) (o : Option Rule) → find p s.rules ≡ o → (rest : Text) (h : Held) (met : Held → Held × Outcome) (faults : Held → Kinds)
        → ((g : Held) → faults g ≡ [] → Inv g.rows → Inv (met g).0.rows)
        → short_fault s.rules s.args_override_self o rest h faults ≡ [] → Inv h.rows → Inv (short_met s.rules o rest h met).0.rows
    short_keeps p None is rest h met faults keeps e inv = inv
    short_keeps p (Some a) is rest h met faults keeps e inv = go (takes_values a) e
      where
        go : (b : Bool)
            → cond b (option_fault s.rules s.args_override_self a (attached_value rest) h) (or_else (react_fault s.rules s.args_override_self a [] h) (faults (reacted s.rules a [] h))) ≡ []
            → Inv (cond b (option_met s.rules a (attached_value rest) h) (met (reacted s.rules a [] h))).0.rows
        go true e = option_keeps p a is (attached_value rest) h e inv
        go false e =
            let parts = none_of_both (react_fault s.rules s.args_override_self a [] h) (faults (reacted s.rules a [] h)) e in
            keeps (reacted s.rules a [] h) parts.1 (react_keeps p a is [] h parts.0 inv)

    bundle_step_keeps : (k : ℕ)
        → ((flags : Text) (skip : ℕ) (so_far : Outcome) (h : Held) → flags_fault s.rules s.args_override_self k flags skip h ≡ [] → Inv h.rows → Inv (bundle_met s.rules k flags skip so_far h).0.rows)
        → (x : Option ℕ) (flags : Text) (skip : ℕ) (so_far : Outcome) (h : Held)
        → bundle_step_fault s.rules s.args_override_self x flags skip h (flags_fault s.rules s.args_override_self k) ≡ [] → Inv h.rows
        → Inv (bundle_step s.rules x flags skip so_far h (bundle_met s.rules k)).0.rows
    bundle_step_keeps k more None flags skip so_far h e inv = inv
    bundle_step_keeps k more (Some x) flags zero so_far h e inv =
        let rest = drop (length (encode_utf8 x)) flags in
        short_keeps (λ a. not (is_some a.index) && has_short a x) (arg_by_short s.rules x) refl rest h (bundle_met s.rules k rest 0 done) (flags_fault s.rules s.args_override_self k rest 0)
        (λ g e inv. more rest 0 done g e inv) e inv
    bundle_step_keeps k more (Some x) flags (suc skip) so_far h e inv = more (drop (length (encode_utf8 x)) flags) skip so_far h e inv

    bundle_keeps : (k : ℕ) (flags : Text) (skip : ℕ) (so_far : Outcome) (h : Held)
        → flags_fault s.rules s.args_override_self k flags skip h ≡ [] → Inv h.rows → Inv (bundle_met s.rules k flags skip so_far h).0.rows
    unfolding flags_fault bundle_met
    bundle_keeps zero flags skip so_far h e inv = inv
    bundle_keeps (suc k) flags skip so_far h e inv = bundle_step_keeps k (bundle_keeps k) (slice_get (chars flags) 0) flags skip so_far h e inv

    -- ---- words

    option_word_keeps : (o : Option Rule) (id word : Text) (h : Held) → Inv h.rows → Inv (option_word o id word h).0.rows
    option_word_keeps None id word h inv = inv
    option_word_keeps (Some a) id word h inv = inv

    plain_keeps : (waiting : Waiting) (word : Text) (h : Held) → Inv h.rows → Inv (plain_word s.rules waiting word h).0.rows
    plain_keeps idle word h inv = inv
    plain_keeps (option id) word h inv = option_word_keeps (arg_by_id s.rules id) id word h inv
    plain_keeps positional word h inv = inv

    after_keeps : (waiting : Waiting) (word : Text) (h : Held) (o : Outcome) → Inv h.rows → Inv (after_flag s.rules waiting word h o).0.rows
    after_keeps waiting word h done inv = inv
    after_keeps waiting word h (waits id) inv = inv
    after_keeps waiting word h plain inv = plain_keeps waiting word h inv
    after_keeps waiting word h refused inv = plain_keeps waiting word h inv

    flag_word_keeps : (waiting : Waiting) (word : Text) (l : Option (Text × Option Text)) (h : Held)
        → flag_word_fault s.rules s.args_override_self l word h ≡ [] → Inv h.rows → Inv (long_or_other s.rules waiting word l h).0.rows
    flag_word_keeps waiting word (Some p) h e inv =
        let met = long_met s.rules (arg_by_long s.rules p.0) p.1 h in
        after_keeps waiting word met.0 met.1 (long_keeps (λ a. not (is_some a.index) && has_long a p.0) (arg_by_long s.rules p.0) refl p.1 h e inv)
    flag_word_keeps waiting word None h e inv = go (short_of word) e
      where
        go : (f : Option Text) → option_map_or (λ flags. flags_fault s.rules s.args_override_self (length flags) flags h.skip (record h { skip = 0 })) f [] ≡ []
            → Inv (short_or_plain s.rules waiting word f h).0.rows
        go (Some flags) e =
            let met = bundle_met s.rules (length flags) flags h.skip plain (record h { skip = 0 }) in
            after_keeps waiting word met.0 met.1 (bundle_keeps (length flags) flags h.skip plain (record h { skip = 0 }) e inv)
        go None e = plain_keeps waiting word h inv

    other_keeps : (o : Option Text) (waiting : Waiting) (position : ℕ) (word : Text) (h : Held)
        → other_fault s o word h ≡ [] → Inv h.rows → Inv (subcommand_or_other s.rules o waiting position word h).0.rows
    other_keeps (Some name) waiting position word h e inv = inv
    other_keeps None waiting position word h e inv = go (bytes_eq word (45 ∷ 45 ∷ [])) e
      where
        go : (b : Bool) → cond b [] (flag_word_fault s.rules s.args_override_self (long_of word) word h) ≡ []
            → Inv (cond b (h, trailing position) (long_or_other s.rules waiting word (long_of word) h)).0.rows
        go true e = inv
        go false e = flag_word_keeps waiting word (long_of word) h e inv

    word_keeps : (names : Names) (is_trailing : Bool) (waiting : Waiting) (position : ℕ) (word : Text) (h : Held)
        → word_fault s names is_trailing waiting word h ≡ [] → Inv h.rows → Inv (word_met s.rules names is_trailing waiting position word h).0.rows
    word_keeps names true waiting position word h e inv = inv
    word_keeps names false waiting position word h e inv = other_keeps (subcommand_met names waiting word) waiting position word h e inv

    positional_keeps : (o : Option Rule) (word : Text) (w : Walk) (h : Held)
        → option_map_or (λ a. positional_fault s.rules s.args_override_self a h) o (stray_fault s) ≡ [] → Inv h.rows → Inv (to_positional s.rules o word w h).held.rows
    positional_keeps None word w h e inv = inv
    positional_keeps (Some a) word w h e inv = go (is_pending a h.pending && takes_several a) e
      where
        go : (b : Bool) → cond b [] (settle_fault s.rules s.args_override_self h) ≡ [] → Inv (pushed a.id word (cond b h (settled s.rules h))).rows
        go true e = inv
        go false e = settle_keeps h e inv

    step_keeps : (step : Step) (word : Text) (w : Walk) (h : Held) → step_fault s w.position h step ≡ [] → Inv h.rows → Inv (after_step s.rules word w h step).held.rows
    step_keeps (next waiting) word w h e inv = inv
    step_keeps (trailing position) word w h e inv = inv
    step_keeps (subcommand name) word w h e inv = inv
    step_keeps value word w h e inv = positional_keeps (arg_by_index s.rules w.position) word w h e inv

    turn_keeps : (names : Names) (w : Walk) (word : Text) → turn_fault s names w word ≡ [] → Inv w.held.rows → Inv (walked s.rules names w word).held.rows
    unfolding walked
    turn_keeps names w word e inv = go w.stopped e
      where
        met : Held × Step
        met = word_met s.rules names w.is_trailing w.waiting w.position word w.held

        go : (o : Option (Text × List Text))
            → cond (is_some o) [] (or_else (word_fault s names w.is_trailing w.waiting word w.held) (step_fault s w.position met.0 met.1)) ≡ []
            → Inv (walked_from s.rules names o w word).held.rows
        go (Some p) e = inv
        go None e =
            let parts = none_of_both (word_fault s names w.is_trailing w.waiting word w.held) (step_fault s w.position met.0 met.1) e in
            step_keeps met.1 word w met.0 parts.1 (word_keeps names w.is_trailing w.waiting w.position word w.held parts.0 inv)

    walk_keeps : (names : Names) (w : Walk) (words : List Text) → walk_fault s names w words ≡ [] → Inv w.held.rows → Inv (fold (walked s.rules names) w words).held.rows
    unfolding walk_fault
    walk_keeps names w [] e inv = inv
    walk_keeps names w (word ∷ rest) e inv =
        let parts = none_of_both (turn_fault s names w word) (walk_fault s names (walked s.rules names w word) rest) e in
        walk_keeps names (walked s.rules names w word) rest parts.1 (turn_keeps names w word parts.0 inv)

    -- ---- after the walk

    defaults_keep : (rules : List Rule) (rows : List Row) → AllByRecursion (KeepsDefault Inv) rules → Inv rows → Inv (fold with_default rows rules)
    defaults_keep [] rows each inv = inv
    defaults_keep (a ∷ rules) rows each inv = defaults_keep rules (with_default rows a) each.1 (each.0 rows inv)

    -- a command without subcommands that has no fault of the words keeps the fact, and has what must be there
    pub level_keeps : (words : List Text) → AllByRecursion (KeepsDefault Inv) s.rules → level_fault s [] nothing_held words false [] ≡ [] → Inv []
        → Inv (rows_after s.rules [] words) × (check_fault s (rows_after s.rules [] words) false ≡ [])
    level_keeps words each e inv =
        let end = (walk s.rules [] nothing_held words).held in
        let parts = none_of_both (walk_fault s [] (walk_from nothing_held) words) _ e in
        let settling = none_of_both (settle_fault s.rules s.args_override_self end) _ parts.1 in
        let defaults = none_of_both (defaults_fault (settled s.rules end).rows s.rules) _ settling.1 in
        let walked_rows = walk_keeps [] (walk_from nothing_held) words parts.0 inv in
        (defaults_keep s.rules (settled s.rules end).rows each (settle_keeps end settling.0 walked_rows), defaults.1)
