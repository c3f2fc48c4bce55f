-- The entries of a client after one of them has changed, after all are purged, and after READY.
use Rattle.std.proofs.Common.{◌≡◌, ℕ, Bool, true, false, ◌||◌, ◌&&◌, not, List, [], ◌∷◌, map, Option, Some, None, Result, Ok, Err, OnOk, OnErr, if◌then◌else◌, refl, sym, ap, ◌∙◌, eqb-true, eq-eqb}
use Rattle.std.specs.Prelude.{◌==◌, is_some, unwrap_or}
use Rattle.collections.specs.ById.{IsById, find_id, has_id, put_id, put_all, without_id}
use Rattle.collections.proofs.Finds.{find-put, find-map, key-found}
use Rattle.collections.proofs.Has.{has-put, has-without}
use Rattle.collections.proofs.Filters.{put-put, put-same}
use Rattle.perm_bits.specs.Bits.{has_bit}
use Rattle.intent_set.specs.Intents.{guilds}
use Rattle.guild_model.specs.Record.{own_id}
use Rattle.dispatch_types.specs.declared.view.GuildView.{GuildView}
use Rattle.dispatch_types.specs.declared.view.GuildView.TheVariants.{Unavailable, Open}
use Rattle.dispatch_types.specs.declared.ready.Ready.{Ready as ReadyOf}
use Rattle.dispatch_types.specs.declared.dispatch.Dispatch.{Dispatch}
use Rattle.dispatch_types.specs.declared.dispatch.Dispatch.TheVariants.{Ready}
use Rattle.dispatch_types.specs.Projection.{listed}
use Rattle.dispatch_types.specs.GuildOf.{guild_of}
use Rattle.dispatch_types.specs.Fold.{Held, after, contains, if_unavailable, changed, purge}
use Rattle.dispatch_types.proofs.Folds.{changed-of}
use Rattle.client_cache.specs.declared.held.HeldGuild.{HeldGuild}
use Rattle.client_cache.specs.Cached.{held_id, held_by, held_in, empty_entry, entry_of, taken_out, entry_after, entry_purged, unavailable_entry, AreViewed}
use Rattle.client_cache.proofs.Changes.{purge-held}
use Rattle.client_cache.proofs.Lists.{has-all, has-contains}

pub entry-id : (g : ℕ) (es : List HeldGuild) → (entry_of g es).id ≡ g
entry-id g es = either (find_id held_id g es) (λ e is. key-found held_id g es e is)
  where
    either : (o : Option HeldGuild) → ((e : HeldGuild) → o ≡ Some e → e.id ≡ g) → (unwrap_or o (empty_entry g)).id ≡ g
    either None is = refl
    either (Some e) is = is e refl

-- an entry that is found is that of the guild
pub entry-found : (g : ℕ) (e : HeldGuild) (es : List HeldGuild) → find_id held_id g es ≡ Some e → entry_of g es ≡ e
entry-found g e es found = ap (λ (o : Option HeldGuild). unwrap_or o (empty_entry g)) found

-- a guild without an entry has an empty one
pub entry-none : (g : ℕ) (es : List HeldGuild) → has_id held_id g es ≡ false → entry_of g es ≡ empty_entry g
entry-none g es not = either (find_id held_id g es) not
  where
    either : (o : Option HeldGuild) → is_some o ≡ false → unwrap_or o (empty_entry g) ≡ empty_entry g
    either None not = refl
    either (Some e) not = absurd (cc)

module _ (g : ℕ) (es : List HeldGuild) where
  -- while an entry is taken out, the same guilds have one
  has_taken : has_id held_id g (taken_out g es) ≡ has_id held_id g es
  has_taken = at (has_id held_id g es) refl
    where
      at : (b : Bool) → has_id held_id g es ≡ b → has_id held_id g (if b then put_id held_id (empty_entry g) es else es) ≡ b
      at true is = has-put held_id (empty_entry g) g es ∙ ap (λ (b : Bool). b || has_id held_id g es) (eq-eqb g g refl)
      at false is = is

  -- an entry that is taken out is put back
  pub put-taken : (e : HeldGuild) → IsById held_id es → e.id ≡ g → put_id held_id e (taken_out g es) ≡ put_id held_id e es
  put-taken e h same = at (has_id held_id g es)
    where
      at : (b : Bool) → put_id held_id e (if b then put_id held_id (empty_entry g) es else es) ≡ put_id held_id e es
      at true = put-put held_id e (empty_entry g) es h same
      at false = refl

  -- as it was, or in no place
  pub put-same-taken : IsById held_id es → has_id held_id g (taken_out g es) ≡ true → put_id held_id (entry_of g es) (taken_out g es) ≡ es
  put-same-taken h there = put-taken (entry_of g es) h (entry-id g es) ∙ at (find_id held_id g es) refl (sym has_taken ∙ there)
    where
      at : (o : Option HeldGuild) → find_id held_id g es ≡ o → is_some o ≡ true → put_id held_id (entry_of g es) es ≡ es
      at None found there = absurd (cc)
      at (Some e) found there =
          ap (λ (x : HeldGuild). put_id held_id x es) (entry-found g e es found)
          ∙ put-same held_id e es h (ap (λ (n : ℕ). find_id held_id n es) (key-found held_id g es e found) ∙ found)

  pub none-taken : has_id held_id g (taken_out g es) ≡ false → taken_out g es ≡ es
  none-taken not = ap (λ (b : Bool). if b then put_id held_id (empty_entry g) es else es) (sym has_taken ∙ not)

-- the view and the known users are those of any bot
pub view-any : (a b g : ℕ) (es : List HeldGuild) → (held_in a es g).view ≡ (held_in b es g).view
view-any a b g es = either (find_id held_id g es)
  where
    either : (o : Option HeldGuild) → (held_by a o).view ≡ (held_by b o).view
    either None = refl
    either (Some e) = refl

pub known-any : (a b g : ℕ) (es : List HeldGuild) → (held_in a es g).known ≡ (held_in b es g).known
known-any a b g es = either (find_id held_id g es)
  where
    either : (o : Option HeldGuild) → (held_by a o).known ≡ (held_by b o).known
    either None = refl
    either (Some e) = refl

module _ (bot : ℕ) where
  -- one entry is another
  pub entry-put : (e : HeldGuild) (es : List HeldGuild) (g : ℕ) → held_in bot (put_id held_id e es) g ≡ (if e.id == g then held_by bot (Some e) else held_in bot es g)
  entry-put e es g = ap (held_by bot) (find-put held_id e g es) ∙ either (e.id == g)
    where
      either : (b : Bool) → held_by bot (if b then Some e else find_id held_id g es) ≡ (if b then held_by bot (Some e) else held_in bot es g)
      either true = refl
      either false = refl

  -- what is held of a guild stands in its entry
  in_entry : (g : ℕ) (o : Option HeldGuild) → held_by bot (Some (unwrap_or o (empty_entry g))) ≡ held_by bot o
  in_entry g None = refl
  in_entry g (Some e) = refl

  -- the entry of the guild of a dispatch changes
  pub changed-put : (intents : ℕ) (d : Dispatch) (a : ℕ) → guild_of d ≡ Some a → (es : List HeldGuild) (g : ℕ) → held_in bot (put_id held_id (entry_after intents bot d (entry_of a es)) es) g ≡ changed intents g (held_in bot es g) d
  changed-put intents d a of es g =
      entry-put (entry_after intents bot d (entry_of a es)) es g
      ∙ (ap (λ (n : ℕ). if n == g then after intents d (held_by bot (Some (entry_of a es))) else held_in bot es g) (entry-id a es)
      ∙ (at (a == g) refl ∙ sym (changed-of intents g (held_in bot es g) a d of)))
    where
      at : (b : Bool) → (a == g) ≡ b → (if b then after intents d (held_by bot (Some (entry_of a es))) else held_in bot es g) ≡ (if b then after intents d (held_in bot es g) else held_in bot es g)
      at true is = ap (after intents d) (in_entry a (find_id held_id a es) ∙ ap (held_in bot es) (eqb-true a g is))
      at false is = refl

  -- all entries are purged
  pub all-purged : (intents : ℕ) (es : List HeldGuild) (g : ℕ) → held_in bot (map entry_purged es) g ≡ purge intents g (held_in bot es g)
  all-purged intents es g =
      ap (held_by bot) (find-map held_id held_id entry_purged (λ h. refl) g es)
      ∙ purge-held intents g bot (find_id held_id g es) (λ h e. key-found held_id g es h e)

module _ (intents : ℕ) where
  -- the entries that READY gives
  pub unavailable-found : (g : ℕ) (ids : List ℕ) (es : List HeldGuild) → find_id held_id g (put_all held_id es (map (unavailable_entry intents) ids)) ≡ (if contains g ids then Some (unavailable_entry intents g) else find_id held_id g es)
  unavailable-found g [] es = refl
  unavailable-found g (id ∷ ids) es =
      unavailable-found g ids (put_id held_id (unavailable_entry intents id) es)
      ∙ (ap (λ (o : Option HeldGuild). if contains g ids then Some (unavailable_entry intents g) else o) (find-put held_id (unavailable_entry intents id) g es)
      ∙ at (id == g) refl (contains g ids))
    where
      at : (b : Bool) → (id == g) ≡ b → (others : Bool) → (if others then Some (unavailable_entry intents g) else (if b then Some (unavailable_entry intents id) else find_id held_id g es)) ≡ (if (b || others) then Some (unavailable_entry intents g) else find_id held_id g es)
      at true is true = refl
      at true is false = ap (λ (n : ℕ). Some (unavailable_entry intents n)) (eqb-true id g is)
      at false is true = refl
      at false is false = refl

  pub unavailable-held : (bot g : ℕ) (ids : List ℕ) → held_in bot (put_all held_id [] (map (unavailable_entry intents) ids)) g ≡ record { bot = bot; view = if_unavailable intents (contains g ids); known = [] }
  unavailable-held bot g ids = ap (held_by bot) (unavailable-found g ids []) ∙ either (contains g ids)
    where
      either : (b : Bool) → held_by bot (if b then Some (unavailable_entry intents g) else None) ≡ record { bot = bot; view = if_unavailable intents b; known = [] }
      either true = refl
      either false = refl

  -- READY says all that is held
  pub begun-held : (r : ReadyOf) (h : Held) (g : ℕ) → held_in r.user.id (put_all held_id [] (map (unavailable_entry intents) r.guilds)) g ≡ changed intents g h (Ready r)
  begun-held r h g = unavailable-held r.user.id g r.guilds

  -- the guilds that READY names have a view, where GUILDS tells of them
  pub unavailable-viewed : (ids : List ℕ) → AreViewed (listed intents guilds (put_all own_id [] ids)) (put_all held_id [] (map (unavailable_entry intents) ids))
  unavailable-viewed ids g = either (has_bit intents guilds) refl ∙ sym (ap (λ (h : Held). is_some h.view) (unavailable-held 0 g ids))
    where
      told_of : (b there : Bool) → (if b then there else false) ≡ is_some (if there then (if b then Some Unavailable else None) else None)
      told_of true true = refl
      told_of true false = refl
      told_of false true = refl
      told_of false false = refl

      in_list : (b : Bool) → has_id own_id g (if b then put_all own_id [] ids else []) ≡ (if b then contains g ids else false)
      in_list true = has-all own_id g ids ∙ has-contains g ids
      in_list false = refl

      either : (b : Bool) → has_bit intents guilds ≡ b → has_id own_id g (listed intents guilds (put_all own_id [] ids)) ≡ is_some (if_unavailable intents (contains g ids))
      either b is = in_list (has_bit intents guilds) ∙ told_of (has_bit intents guilds) (contains g ids)

-- the guilds that have a view, after an entry of one has changed
pub relisted : (guild : ℕ) (viewed : List ℕ) (old new : List HeldGuild) → AreViewed viewed old → ((g : ℕ) → (guild == g) ≡ false → held_in 0 new g ≡ held_in 0 old g) → AreViewed (if is_some (held_in 0 new guild).view then put_id own_id guild viewed else without_id own_id guild (put_id own_id guild viewed)) new
relisted guild viewed old new are others g = in_list (is_some (held_in 0 new guild).view) ∙ at (guild == g) refl
  where
    put : (b x : Bool) → (b || x) ≡ (if b then true else x)
    put true x = refl
    put false x = refl

    gone : (b x : Bool) → (not b && (b || x)) ≡ (if b then false else x)
    gone true x = refl
    gone false x = refl

    in_list : (has : Bool) → has_id own_id g (if has then put_id own_id guild viewed else without_id own_id guild (put_id own_id guild viewed)) ≡ (if guild == g then has else has_id own_id g viewed)
    in_list true = has-put own_id guild g viewed ∙ put (guild == g) (has_id own_id g viewed)
    in_list false = has-without own_id guild g (put_id own_id guild viewed) ∙ (ap (λ b. not (guild == g) && b) (has-put own_id guild g viewed) ∙ gone (guild == g) (has_id own_id g viewed))

    at : (b : Bool) → (guild == g) ≡ b → (if b then is_some (held_in 0 new guild).view else has_id own_id g viewed) ≡ is_some (held_in 0 new g).view
    at true is = ap (λ (n : ℕ). is_some (held_in 0 new n).view) (eqb-true guild g is)
    at false is = are g ∙ sym (ap (λ (h : Held). is_some h.view) (others g is))

-- an entry that is put leaves the others
pub others-held : (bot guild : ℕ) (e : HeldGuild) (es : List HeldGuild) → e.id ≡ guild → (g : ℕ) → (guild == g) ≡ false → held_in bot (put_id held_id e es) g ≡ held_in bot es g
others-held bot guild e es same g is =
    entry-put bot e es g ∙ ap (λ (b : Bool). if b then held_by bot (Some e) else held_in bot es g) (ap (λ (n : ℕ). n == g) same ∙ is)

pub others-either : {A E : Type 0} (guild : ℕ) (e : HeldGuild) (old new : List HeldGuild) → e.id ≡ guild → (r : Result A E) → OnOk r (new ≡ put_id held_id e old) → OnErr r (new ≡ old) → (g : ℕ) → (guild == g) ≡ false → held_in 0 new g ≡ held_in 0 old g
others-either guild e old new same (Ok x) ok err g is = ap (λ (es : List HeldGuild). held_in 0 es g) ok ∙ others-held 0 guild e old same g is
others-either guild e old new same (Err x) ok err g is = ap (λ (es : List HeldGuild). held_in 0 es g) err

-- the purge leaves a view one
pub purged-viewed : (viewed : List ℕ) (es : List HeldGuild) → AreViewed viewed es → AreViewed viewed (map entry_purged es)
purged-viewed viewed es are g = are g ∙ sym (ap (λ (h : Held). is_some h.view) (all-purged 0 0 es g) ∙ still (held_in 0 es g).view)
  where
    still : (o : Option GuildView) → is_some (purge 0 g (record { bot = 0; view = o; known = [] })).view ≡ is_some o
    still None = refl
    still (Some Unavailable) = refl
    still (Some (Open v)) = refl
