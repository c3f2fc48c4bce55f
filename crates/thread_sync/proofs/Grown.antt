-- The sync that looks at those channels alone whose sight grew is the sync by the sights before.
use Rattle.std.proofs.Common.{◌≡◌, ℕ, Bool, true, false, not, ◌&&◌, ◌||◌, List, [], ◌∷◌, length, Option, Some, None, if◌then◌else◌, refl, sym, ap, ◌∙◌, arith}
use Rattle.std.specs.Prelude.{◌==◌, filter, is_some}
use Rattle.std.specs.Option.{option_map_or}
use Rattle.std.proofs.lemmas.Bool.{eqb-true, and_parts}
use Rattle.std.proofs.lemmas.Bool.Decides.{nat_tests}
use Rattle.collections.specs.ById.{find_id, IsById, keep_if}
use Rattle.collections.proofs.Finds.{key-found, find-filter}
use Rattle.guild_model.specs.declared.member.Member.{Member}
use Rattle.guild_model.specs.declared.thread.Thread.{Thread}
use Rattle.guild_model.specs.Record.{Record}
use Rattle.guild_model.specs.Sight.{standing, is_private, is_in}
use Rattle.dispatch_types.specs.Projection.{is_active}
use Rattle.thread_sync.specs.declared.channel_sight.ChannelSight.{ChannelSight}
use Rattle.thread_sync.specs.ChannelSights.{sight_id, shows_under, sights, is_in_sight, shows_among, covers, is_grown, by_sight, by_sights}
use Rattle.thread_sync.specs.Sync.{is_new, list_sync, uncovered_to}
use Rattle.thread_sync.proofs.Part.{part-sync, none-gained}
use Rattle.thread_sync.proofs.Steps.{sights-sync}

-- what a sight shows, one that covers it shows
pub covers-shown : (was l : ChannelSight) (t : Thread) → was.channel ≡ l.channel → covers was l ≡ true → shows_under l t ≡ true → shows_under was t ≡ true
covers-shown was l t at covered shown =
    let user : was.user ≡ l.user = eqb-true was.user l.user (and_parts _ _ (and_parts _ _ covered).1).0 in
    ap (λ u. was.views && (t.parent == was.channel && (is_active t && (not (is_private t.kind) || was.manages || is_in u t)))) user
    ∙ (ap (λ channel. was.views && (t.parent == channel && (is_active t && (not (is_private t.kind) || was.manages || is_in l.user t)))) at
    ∙ by_parts was.views l.views (was.user == l.user) was.manages l.manages (t.parent == l.channel) (is_active t) (is_private t.kind) (is_in l.user t) covered shown)
  where
    by_parts : (views views' same manages manages' here active private joined : Bool) → (views && (same && (manages || not manages'))) ≡ true
        → (views' && (here && (active && (not private || manages' || joined)))) ≡ true → (views && (here && (active && (not private || manages || joined)))) ≡ true
    by_parts views views' same manages manages' here active private joined e k = grind arith

-- so no thread is new that a sight shows which is covered
new-nowhere : (was l : ChannelSight) (t : Thread) → was.channel ≡ l.channel → covers was l ≡ true → (shows_under l t && (is_private t.kind && not (shows_under was t))) ≡ false
new-nowhere was l t at covered = by_test (shows_under l t) refl
  where
    old : (private saw : Bool) → saw ≡ true → (true && (private && not saw)) ≡ false
    old private saw e = grind arith

    by_test : (b : Bool) → shows_under l t ≡ b → (b && (is_private t.kind && not (shows_under was t))) ≡ false
    by_test true shown = old (is_private t.kind) (shows_under was t) (covers-shown was l t at covered shown)
    by_test false shown = refl

-- a sight that did not grow is covered by one before
covered-before : (before : List ChannelSight) (l : ChannelSight) → is_grown before l ≡ false → (was : ChannelSight) × (find_id sight_id l.channel before ≡ Some was) × (covers was l ≡ true)
covered-before before l stays = by_case (find_id sight_id l.channel before) refl stays
  where
    by_test : (b : Bool) → not b ≡ false → b ≡ true
    by_test true e = refl
    by_test false e = absurd (cc)

    by_case : (o : Option ChannelSight) → find_id sight_id l.channel before ≡ o → not (option_map_or (λ (was : ChannelSight). covers was l) o false) ≡ false
        → (was : ChannelSight) × (find_id sight_id l.channel before ≡ Some was) × (covers was l ≡ true)
    by_case None is e = absurd (cc)
    by_case (Some was) is e = (was, is, by_test (covers was l) e)

-- by the sights that grew
module _ (before ls : List ChannelSight) (ascends : IsById sight_id ls) where
  abbrev pub grown : List ChannelSight
  grown = filter (is_grown before) ls

  abbrev pub grew : ℕ → Bool
  grew id = is_in_sight grown id

  found-grown : (id : ℕ) → find_id sight_id id grown ≡ keep_if (is_grown before) (find_id sight_id id ls)
  found-grown id = find-filter sight_id (is_grown before) id ls ascends

  -- a channel whose sight grew is found among all as among those
  as-found : (id : ℕ) → grew id ≡ true → find_id sight_id id grown ≡ find_id sight_id id ls
  as-found id here = found-grown id ∙ by_case (find_id sight_id id ls) (sym (ap (λ o. is_some o) (found-grown id)) ∙ here)
    where
      by_test : (l : ChannelSight) (b : Bool) → is_some (if b then Some l else None) ≡ true → (if b then Some l else None) ≡ Some l
      by_test l true e = refl
      by_test l false e = absurd (cc)

      by_case : (o : Option ChannelSight) → is_some (keep_if (is_grown before) o) ≡ true → keep_if (is_grown before) o ≡ o
      by_case None e = refl
      by_case (Some l) e = by_test l (is_grown before l) e

  -- one that did not grow was in sight
  stays : (id : ℕ) → grew id ≡ false → (l : ChannelSight) → find_id sight_id id ls ≡ Some l → is_grown before l ≡ false
  stays id out l found = by_test (is_grown before l) (sym (ap (λ o. is_some o) (found-grown id ∙ ap (keep_if (is_grown before)) found)) ∙ out)
    where
      by_test : (b : Bool) → is_some (if b then Some l else None) ≡ false → b ≡ false
      by_test true e = absurd (cc)
      by_test false e = refl

  old-channel : (id : ℕ) → grew id ≡ false → (is_in_sight ls id && not (is_in_sight before id)) ≡ false
  old-channel id out = by_case (find_id sight_id id ls) refl
    where
      old : (saw : Bool) → saw ≡ true → (true && not saw) ≡ false
      old saw e = grind arith

      by_case : (o : Option ChannelSight) → find_id sight_id id ls ≡ o → (is_some o && not (is_in_sight before id)) ≡ false
      by_case None is = refl
      by_case (Some l) is =
          let at : l.channel ≡ id = key-found sight_id id ls l is in
          old (is_in_sight before id) (ap (is_in_sight before) (sym at) ∙ ap (λ o. is_some o) (covered-before before l (stays id out l is)).1)

  old-thread : (t : Thread) → grew t.parent ≡ false → (shows_among ls t && is_new (by_sights before) t) ≡ false
  old-thread t out = by_case (find_id sight_id t.parent ls) refl
    where
      hidden : (active new : Bool) → ((active && false) && new) ≡ false
      hidden active new = grind arith

      within : (active shown private saw : Bool) → (shown && (private && not saw)) ≡ false → ((active && shown) && (private && not (active && saw))) ≡ false
      within active shown private saw e = grind arith

      by_case : (o : Option ChannelSight) → find_id sight_id t.parent ls ≡ o → ((is_active t && option_map_or (λ (l : ChannelSight). shows_under l t) o false) && is_new (by_sights before) t) ≡ false
      by_case None is = hidden (is_active t) (is_new (by_sights before) t)
      by_case (Some l) is =
          let was = covered-before before l (stays t.parent out l is) in
          let found : find_id sight_id t.parent before ≡ Some was.0 = ap (λ id. find_id sight_id id before) (sym (key-found sight_id t.parent ls l is)) ∙ was.1 in
          let at : was.0.channel ≡ l.channel = key-found sight_id l.channel before was.0 was.1 in
          ap (λ (o : Option ChannelSight). (is_active t && shows_under l t) && (is_private t.kind && not (is_active t && option_map_or (λ (l : ChannelSight). shows_under l t) o false))) found
          ∙ within (is_active t) (shows_under l t) (is_private t.kind) (shows_under was.0 t) (new-nowhere was.0 l t at was.2)

  pub grown-sync : (s : Record) (user : ℕ) → list_sync (by_sights before) (by_sights grown) s user ≡ list_sync (by_sights before) (by_sights ls) s user
  grown-sync s user =
      part-sync grew (by_sights before) (by_sights ls) (by_sights before) (by_sights grown)
      (record {
        channel_was = λ id here. refl;
        channel_is = λ id here. ap (λ o. is_some o) (as-found id here);
        thread_was = λ t here. refl;
        thread_is = λ t here. ap (λ (o : Option ChannelSight). is_active t && option_map_or (λ (l : ChannelSight). shows_under l t) o false) (as-found t.parent here);
        no_channel = λ id out. out;
        old_channel = old-channel;
        old_thread = old-thread;
      })
      s user

-- by the sights of all channels that are seen
module _ (before : List ChannelSight) (s : Record) (me : Member) (h : IsById sight_id (sights (standing s me))) where
  abbrev pub all : List ChannelSight
  all = sights (standing s me)

  pub sync-grown : list_sync (by_sights before) (by_sights (filter (is_grown before) all)) s me.user.id ≡ uncovered_to (by_sights before) s me
  sync-grown = grown-sync before all h s me.user.id ∙ sights-sync (by_sights before) s me

  -- where no sight grew, nothing is gained
  pub none-grown : (grown : List ChannelSight) → grown ≡ filter (is_grown before) all → (length grown == 0) ≡ true → None ≡ uncovered_to (by_sights before) s me
  none-grown [] is none =
      sym (none-gained (by_sights before) (by_sights []) (λ id. refl) (λ t. hidden (is_active t) (is_new (by_sights before) t)) s me.user.id)
      ∙ (ap (λ ls. list_sync (by_sights before) (by_sights ls) s me.user.id) is ∙ sync-grown)
    where
      hidden : (active new : Bool) → ((active && false) && new) ≡ false
      hidden active new = grind arith
  none-grown (l ∷ ls) is none = grind (arith, nat_tests)

-- by the sight of one channel: nothing is gained where it is not seen now, or the sight before covers it
pub none-covered : (was l : ChannelSight) → was.channel ≡ l.channel → (not l.views || covers was l) ≡ true → (s : Record) (user : ℕ) → None ≡ list_sync (by_sight was) (by_sight l) s user
none-covered was l at covered s user = by_views l.views refl
  where
    covers-it : (views covers : Bool) → views ≡ true → (not views || covers) ≡ true → covers ≡ true
    covers-it views covers e k = grind arith

    unseen : (views here saw : Bool) → views ≡ false → ((views && here) && not saw) ≡ false
    unseen views here saw e = grind arith

    unshown : (views rest new : Bool) → views ≡ false → ((views && rest) && new) ≡ false
    unshown views rest new e = grind arith

    seen : (views saw here : Bool) → saw ≡ true → ((views && here) && not (saw && here)) ≡ false
    seen views saw here e = grind arith

    by_views : (b : Bool) → l.views ≡ b → None ≡ list_sync (by_sight was) (by_sight l) s user
    by_views false out =
        sym (none-gained (by_sight was) (by_sight l) (λ id. unseen l.views (l.channel == id) (was.views && (was.channel == id)) out)
        (λ t. unshown l.views (t.parent == l.channel && (is_active t && (not (is_private t.kind) || l.manages || is_in l.user t))) (is_new (by_sight was) t) out) s user)
    by_views true views =
        let is : covers was l ≡ true = covers-it l.views (covers was l) views covered in
        sym (none-gained (by_sight was) (by_sight l)
        (λ id. ap (λ (c : ℕ). (l.views && (l.channel == id)) && not (was.views && (c == id))) at ∙ seen l.views was.views (l.channel == id) (and_parts _ _ is).0)
        (λ t. new-nowhere was l t at is) s user)
