-- A dispatch of an available guild makes the view before it the view after it.
use Rattle.std.proofs.Common.{◌≡◌, ℕ, Bool, true, false, List, [], ◌∷◌, ◌++◌, Some, if◌then◌else◌, refl, sym, ap, subst, ◌∙◌}
use Rattle.std.specs.Prelude.{All}
use Rattle.std.proofs.lemmas.List.Elements.{All-nil, All-cons, All-head, All-tail}
use Rattle.perm_bits.specs.Bits.{has_bit}
use Rattle.intent_set.specs.Intents.{guilds}
use Rattle.intent_set.specs.Asks.{asks}
use Rattle.guild_model.specs.declared.member.Member.{Member}
use Rattle.guild_model.specs.Record.{Record}
use Rattle.dispatch_types.specs.declared.viewer.Viewer.{Viewer}
use Rattle.dispatch_types.specs.declared.view.GuildView.TheVariants.{Open}
use Rattle.dispatch_types.specs.declared.view.OpenView.{OpenView}
use Rattle.dispatch_types.specs.declared.dispatch.Dispatch.{Dispatch}
use Rattle.dispatch_types.specs.Kinds.{kind_of}
use Rattle.dispatch_types.specs.Projection.{open_view}
use Rattle.dispatch_types.specs.Fold.{Held, on_open, purged, folded, fold_from}
use Rattle.dispatch_types.proofs.Views.{purged-open}
use Rattle.dispatch_types.specs.GuildOf.{guild_of}
use Rattle.event_views.specs.Asked.{asked}
use Rattle.event_views.specs.Has.{Has}

-- what a dispatch makes of a client: a change of its open view, purged, and of the users that it knows
abbrev pub turned : ℕ → ℕ → (OpenView → OpenView) → (List ℕ → List ℕ) → Held → Held
turned intents g f k h = record { bot = h.bot; view = on_open (purged intents g) (on_open f h.view); known = k h.known }

-- the users that it knows, where they stay
abbrev pub same : List ℕ → List ℕ
same known = known

-- where the change gives the view after, but for threads that the purge takes
pub step : (s t : Record) (v : Viewer) (h : Held) (me me' : Member) (d : Dispatch) (f : OpenView → OpenView) (k : List ℕ → List ℕ)
    → folded v.intents s.id h d ≡ turned v.intents s.id f k h
    → purged v.intents s.id (f (open_view s v.intents h.known me)) ≡ open_view t v.intents (k h.known) me'
    → Has s v me h → Has t v me' (folded v.intents s.id h d)
step s t v h me me' d f k makes turns has =
    let brings = ap (λ o. on_open (purged v.intents s.id) (on_open f o)) has.view ∙ ap (λ (w : OpenView). Some (Open w)) turns in
    subst (λ (held : Held). Has t v me' held) (sym makes) (record { bot = has.bot; view = brings })

-- where the change gives the view after whole
pub whole : (s t : Record) (v : Viewer) (h : Held) (me me' : Member) (d : Dispatch) (f : OpenView → OpenView) (k : List ℕ → List ℕ) → t.id ≡ s.id
    → folded v.intents s.id h d ≡ turned v.intents s.id f k h
    → f (open_view s v.intents h.known me) ≡ open_view t v.intents (k h.known) me'
    → Has s v me h → Has t v me' (folded v.intents s.id h d)
whole s t v h me me' d f k same makes turns has =
    step s t v h me me' d f k makes
    (ap (purged v.intents s.id) turns
    ∙ (ap (λ g. purged v.intents g (open_view t v.intents (k h.known) me')) (sym same)
    ∙ purged-open t v.intents (k h.known) me')) has

-- a client that is told nothing holds the view after where it is the view before
pub untold : (s t : Record) (v : Viewer) (h : Held) (me me' : Member) → open_view s v.intents h.known me ≡ open_view t v.intents h.known me' → Has s v me h → Has t v me' h
untold s t v h me me' same has = record { bot = has.bot; view = has.view ∙ ap (λ (w : OpenView). Some (Open w)) same }

-- a dispatch where it is asked for
pub by_asked : (t : Record) (v : Viewer) (g : ℕ) (h : Held) (me' : Member) (own : Bool) (d : Dispatch)
    → (asks v.intents (kind_of d) own ≡ true → Has t v me' (folded v.intents g h d))
    → (asks v.intents (kind_of d) own ≡ false → Has t v me' h)
    → Has t v me' (fold_from v.intents g h (asked v own d))
by_asked t v g h me' own d told silent = by_test (asks v.intents (kind_of d) own) told silent
  where
    by_test : (b : Bool) → (b ≡ true → Has t v me' (folded v.intents g h d)) → (b ≡ false → Has t v me' h) → Has t v me' (fold_from v.intents g h (if b then d ∷ [] else []))
    by_test true told silent = told refl
    by_test false told silent = silent refl

-- and one that GUILDS asks for, of a viewer with GUILDS
pub by_guilds : (t : Record) (v : Viewer) (g : ℕ) (h : Held) (me' : Member) (own : Bool) (d : Dispatch)
    → has_bit v.intents guilds ≡ true → asks v.intents (kind_of d) own ≡ has_bit v.intents guilds
    → Has t v me' (folded v.intents g h d) → Has t v me' (fold_from v.intents g h (asked v own d))
by_guilds t v g h me' own d has_guilds by told =
    by_asked t v g h me' own d (λ e. told) (λ e. absurd (cc))

-- one list of dispatches after another
pub fold-append : (intents g : ℕ) (h : Held) (ds es : List Dispatch) → fold_from intents g h (ds ++ es) ≡ fold_from intents g (fold_from intents g h ds) es
fold-append intents g h [] es = refl
fold-append intents g h (d ∷ ds) es = fold-append intents g (folded intents g h d) ds es

-- each dispatch that is due is of the guild
abbrev pub IsOf : ℕ → Dispatch → Type 0
IsOf guild d = guild_of d ≡ Some guild

pub asked-of : (guild : ℕ) (v : Viewer) (own : Bool) (d : Dispatch) → IsOf guild d → All (IsOf guild) (asked v own d)
asked-of guild v own d of = by_test (asks v.intents (kind_of d) own)
  where
    by_test : (b : Bool) → All (IsOf guild) (if b then d ∷ [] else [])
    by_test true = All-cons (IsOf guild) d [] of (All-nil (IsOf guild))
    by_test false = All-nil (IsOf guild)

pub append-of : (guild : ℕ) (ds es : List Dispatch) → All (IsOf guild) ds → All (IsOf guild) es → All (IsOf guild) (ds ++ es)
append-of guild [] es first second = second
append-of guild (d ∷ ds) es first second = All-cons (IsOf guild) d (ds ++ es) (All-head (IsOf guild) d ds first) (append-of guild ds es (All-tail (IsOf guild) d ds first) second)

-- a dispatch where it is asked for, and then others
pub by_asked_then : (t : Record) (v : Viewer) (g : ℕ) (h : Held) (me' : Member) (own : Bool) (d : Dispatch) (rest : List Dispatch)
    → (asks v.intents (kind_of d) own ≡ true → Has t v me' (fold_from v.intents g (folded v.intents g h d) rest))
    → (asks v.intents (kind_of d) own ≡ false → Has t v me' (fold_from v.intents g h rest))
    → Has t v me' (fold_from v.intents g h (asked v own d ++ rest))
by_asked_then t v g h me' own d rest told silent = by_test (asks v.intents (kind_of d) own) told silent
  where
    by_test : (b : Bool) → (b ≡ true → Has t v me' (fold_from v.intents g (folded v.intents g h d) rest)) → (b ≡ false → Has t v me' (fold_from v.intents g h rest)) → Has t v me' (fold_from v.intents g h ((if b then d ∷ [] else []) ++ rest))
    by_test true told silent = told refl
    by_test false told silent = silent refl
