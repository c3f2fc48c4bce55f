-- A client's value represents the client that keeps all its dispatches.
use Rattle.std.proofs.Common.{◌≡◌, ℕ, Bool, true, false, List, [], ◌∷◌, ◌++◌, Option, Some, None, refl, sym, ap, subst, ◌∙◌}
use Rattle.std.specs.Prelude.{◌==◌, if◌then◌else◌, option_to_list, option_map}
use Rattle.std.specs.Result.{result_ok}
use Rattle.std.proofs.lemmas.List.{append-nil}
use Rattle.dispatch_types.specs.declared.dispatch.Dispatch.{Dispatch}
use Rattle.dispatch_types.specs.declared.dispatch.Dispatch.TheVariants.{Resumed as ResumedDispatch}
use Rattle.dispatch_types.specs.Fold.{Held, nothing, folded, fold_from, fold}
use Rattle.gateway_frames.specs.declared.out.Out.{Out}
use Rattle.gateway_frames.specs.declared.out.Out.TheVariants.{Hello, Ack, Invalid, Reconnect, Resumed}
use Rattle.client_cache.specs.Cached.{Cached, held_of}
use Rattle.client_session.specs.declared.heartbeat.Heartbeat.{Heartbeat}
use Rattle.client_session.specs.declared.received.Received.TheVariants as payload
use Rattle.client_session.specs.State.{ClientState}
use Rattle.client_session.specs.Table.{begun, session_after, is_final, is_due_at, after_other, other_acts, after_loss, loss_answer, after_beat, beat_act}
use Rattle.client_session.specs.Step.{Event, Receives, Loses, Asks, after, acts, dispatch_of, Folds}
use Rattle.client_session.specs.Law.{Model, taken, Represents, NewRepresents, StepsRepresent}

-- ---- two clients that differ in what they keep of their dispatches

record Alike (k : ClientState Cached) (c : Model) : Type 0 where
  token : k.token ≡ c.token
  intents : k.intents ≡ c.intents
  session : k.session ≡ c.session
  heartbeat : k.heartbeat ≡ c.heartbeat

either : (a b : Bool) → a ≡ b → (x y : ClientState Cached) (u v : Model) → Alike x u → Alike y v → Alike (if a then x else y) (if b then u else v)
either true true e x y u v h k = h
either true false e x y u v h k = absurd cc
either false true e x y u v h k = absurd cc
either false false e x y u v h k = k

alike_other : (k : ClientState Cached) (c : Model) → Alike k c → (out : Out) (now : ℕ) → Alike (after_other k out now) (after_other c out now)
alike_other k c h (Hello interval_ms) now = record { token = h.token; intents = h.intents; session = h.session; heartbeat = refl }
alike_other k c h Ack now = h
alike_other k c h (Invalid true) now = h
alike_other k c h (Invalid false) now = record { token = h.token; intents = h.intents; session = refl; heartbeat = h.heartbeat }
alike_other k c h Reconnect now = record { token = h.token; intents = h.intents; session = h.session; heartbeat = refl }
alike_other k c h (Resumed number) now = record { token = h.token; intents = h.intents; session = ap (session_after (begun ResumedDispatch number) number) h.session; heartbeat = h.heartbeat }

alike_loss : (k : ClientState Cached) (c : Model) → Alike k c → (code : Option ℕ) → Alike (after_loss k code) (after_loss c code)
alike_loss k c h None = record { token = h.token; intents = h.intents; session = h.session; heartbeat = refl }
alike_loss k c h (Some code) =
    either (is_final code) (is_final code) refl _ _ _ _ h
    (either (code == 4007) (code == 4007) refl _ _ _ _
    (record { token = h.token; intents = h.intents; session = refl; heartbeat = refl })
    (record { token = h.token; intents = h.intents; session = h.session; heartbeat = refl }))

alike_beat : (k : ClientState Cached) (c : Model) → Alike k c → (now : ℕ) → Alike (after_beat k now) (after_beat c now)
alike_beat k c h now =
    either (is_due_at k.heartbeat now) (is_due_at c.heartbeat now) (ap (λ x. is_due_at x now) h.heartbeat) _ _ _ _
    (record { token = h.token; intents = h.intents; session = h.session; heartbeat = ap (option_map (λ (x : Heartbeat). record x { since = now })) h.heartbeat })
    h

alike_after : (k : ClientState Cached) (c : Model) → Alike k c → (event : Event) → Alike (after k event) (after c event)
alike_after k c h (Receives (payload.Dispatch dispatch number) now) =
    record { token = h.token; intents = h.intents; session = ap (session_after (begun dispatch number) number) h.session; heartbeat = h.heartbeat }
alike_after k c h (Receives (payload.Other out) now) = alike_other k c h out now
alike_after k c h (Loses code) = alike_loss k c h code
alike_after k c h (Asks now) = alike_beat k c h now

same_other : (k : ClientState Cached) (c : Model) → Alike k c → (out : Out) → other_acts k out ≡ other_acts c out
same_other k c h (Hello interval_ms) = cc
same_other k c h Ack = refl
same_other k c h (Invalid true) = cc
same_other k c h (Invalid false) = cc
same_other k c h Reconnect = cc
same_other k c h (Resumed number) = refl

same_loss : (k : ClientState Cached) (c : Model) → Alike k c → (code : Option ℕ) → loss_answer k code ≡ loss_answer c code
same_loss k c h None = cc
same_loss k c h (Some code) = cc

same_beat : (k : ClientState Cached) (c : Model) → Alike k c → (now : ℕ) → beat_act k now ≡ beat_act c now
same_beat k c h now = cc

same_acts : (k : ClientState Cached) (c : Model) → Alike k c → (event : Event) → acts k event ≡ acts c event
same_acts k c h (Receives (payload.Dispatch dispatch number) now) = refl
same_acts k c h (Receives (payload.Other out) now) = same_other k c h out
same_acts k c h (Loses code) = ap (λ answer. option_to_list (result_ok answer)) (same_loss k c h code)
same_acts k c h (Asks now) = ap option_to_list (same_beat k c h now)

-- ---- what is held

fold_more : (intents g : ℕ) (h : Held) (ds : List Dispatch) (d : Dispatch) → fold_from intents g h (ds ++ d ∷ []) ≡ folded intents g (fold_from intents g h ds) d
fold_more intents g h [] d = refl
fold_more intents g h (x ∷ ds) d = fold_more intents g (folded intents g h x) ds d

held_after : (intents : ℕ) (old new : Cached) (ds : List Dispatch) (o : Option Dispatch) → ((g : ℕ) → held_of old g ≡ fold intents g ds)
    → Folds intents old o new → (g : ℕ) → held_of new g ≡ fold intents g (ds ++ option_to_list o)
held_after intents old new ds None h f g = ap (λ cache. held_of cache g) f ∙ (h g ∙ ap (fold intents g) (sym (append-nil ds)))
held_after intents old new ds (Some d) h f g = f g ∙ (ap (λ x. folded intents g x d) (h g) ∙ sym (fold_more intents g nothing ds d))

-- ---- the intents stay

choice : (b : Bool) (x y : Model) (n : ℕ) → x.intents ≡ n → y.intents ≡ n → (if b then x else y).intents ≡ n
choice true x y n h k = h
choice false x y n h k = k

other_stay : (c : Model) (out : Out) (now : ℕ) → (after_other c out now).intents ≡ c.intents
other_stay c (Hello interval_ms) now = refl
other_stay c Ack now = refl
other_stay c (Invalid true) now = refl
other_stay c (Invalid false) now = refl
other_stay c Reconnect now = refl
other_stay c (Resumed number) now = refl

loss_stay : (c : Model) (code : Option ℕ) → (after_loss c code).intents ≡ c.intents
loss_stay c None = refl
loss_stay c (Some code) = choice (is_final code) _ _ c.intents refl (choice (code == 4007) _ _ c.intents refl refl)

intents_stay : (c : Model) (event : Event) → (taken c event).intents ≡ c.intents
intents_stay c (Receives (payload.Dispatch dispatch number) now) = refl
intents_stay c (Receives (payload.Other out) now) = other_stay c out now
intents_stay c (Loses code) = loss_stay c code
intents_stay c (Asks now) = choice (is_due_at c.heartbeat now) _ _ c.intents refl refl

-- ---- the laws

pub new_represents : NewRepresents
unfolding NewRepresents
new_represents token intents = record { token = refl; intents = refl; session = refl; heartbeat = refl; held = λ g. refl }

alike : (k : ClientState Cached) (c : Model) → Represents k c → Alike k c
alike k c h = record { token = h.token; intents = h.intents; session = h.session; heartbeat = h.heartbeat }

represents_after : (old new : ClientState Cached) (c : Model) (event : Event) → Represents old c
    → new ≡ record (after old event) { kept = new.kept } → Folds old.intents old.kept (dispatch_of event) new.kept → Represents new (taken c event)
represents_after old new c event h e f =
    let same = alike_after old c (alike old c h) event in
    let by : Folds c.intents old.kept (dispatch_of event) new.kept = subst (λ n. Folds n old.kept (dispatch_of event) new.kept) h.intents f in
    let kept = held_after c.intents old.kept new.kept c.kept (dispatch_of event) h.held by in
    record {
      token = ap (λ (x : ClientState Cached). x.token) e ∙ same.token;
      intents = ap (λ (x : ClientState Cached). x.intents) e ∙ same.intents;
      session = ap (λ (x : ClientState Cached). x.session) e ∙ same.session;
      heartbeat = ap (λ (x : ClientState Cached). x.heartbeat) e ∙ same.heartbeat;
      held = λ g. kept g ∙ ap (λ n. fold n g (taken c event).kept) (sym (intents_stay c event));
    }

pub steps_represent : StepsRepresent
unfolding StepsRepresent
steps_represent old new c event done h s = (represents_after old new c event h s.0 s.1, s.2 ∙ same_acts old c (alike old c h) event)
