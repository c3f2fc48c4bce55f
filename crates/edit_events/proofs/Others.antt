-- Each dispatch that is due is of the guild, so of another guild a client holds what it held.
use Rattle.std.proofs.Common.{◌≡◌, Bool, true, false, [], Option, Some, None, if◌then◌else◌, refl, sym, ap, subst}
use Rattle.std.specs.Prelude.{All}
use Rattle.std.proofs.lemmas.List.Elements.{All-nil}
use Rattle.guild_model.specs.declared.member.Member.{Member}
use Rattle.guild_model.specs.Record.{Record}
use Rattle.guild_model.specs.Shown.{shown_part}
use Rattle.dispatch_types.specs.declared.viewer.Viewer.{Viewer}
use Rattle.dispatch_types.specs.declared.dispatch.Dispatch.TheVariants.{GuildCreate, GuildDelete}
use Rattle.dispatch_types.specs.Serves.{served}
use Rattle.dispatch_types.proofs.Views.{purge-stays}
use Rattle.dispatch_types.proofs.Folds.{folded-elsewhere, fold-elsewhere}
use Rattle.event_views.proofs.Steps.{IsOf, asked-of}
use Rattle.edit_apply.specs.declared.Edit.{Edit}
use Rattle.edit_apply.specs.Edits.{applied, accepts}
use Rattle.whole_events.proofs.Others.{id-kept}
use Rattle.edit_events.specs.Greeting.{greeting}
use Rattle.edit_events.specs.Due.{due_to, due_of_accepted, due}
use Rattle.edit_events.specs.Law.{ProjectionStays, OthersStay, GreetingStays}
use Rattle.edit_events.proofs.Greets.{greeting-id}
use Rattle.edit_events.proofs.Keeps.{shown-of}

pub projection_stays : ProjectionStays
projection_stays s v h well agrees = purge-stays s v h agrees.view

due_to-of : (before : Record) (o : Option Member) (after : Record) (o' : Option Member) (v : Viewer) (e : Edit) → before.id ≡ after.id → All (IsOf after.id) (due_to before o after o' v e)
due_to-of before None after None v e at = All-nil (IsOf after.id)
due_to-of before None after (Some me') v e at = asked-of after.id v false (GuildCreate (greeting after v me')) (ap (λ id. Some id) (greeting-id (shown_part after me') v me'))
due_to-of before (Some me) after None v e at = asked-of after.id v false (GuildDelete (record { id = after.id; unavailable = false })) refl
due_to-of before (Some me) after (Some me') v e at = shown-of before me after me' v e at

pub due-of : (s : Record) (e : Edit) (v : Viewer) → All (IsOf s.id) (due s e v)
unfolding due
due-of s e v = by_verdict (accepts s e)
  where
    by_verdict : (b : Bool) → All (IsOf s.id) (if b then due_of_accepted s e v else [])
    by_verdict true = subst (λ guild. All (IsOf guild) (due_of_accepted s e v)) (id-kept s e) (due_to-of s (served v s) (applied s e) (served v (applied s e)) v e (sym (id-kept s e)))
    by_verdict false = All-nil (IsOf s.id)

pub others_stay : OthersStay
others_stay s e v g h other stays = fold-elsewhere v.intents g h s.id (due s e v) (due-of s e v) other stays

pub greeting_stays : GreetingStays
greeting_stays s v g h me other stays = folded-elsewhere v.intents g h s.id (GuildCreate (greeting s v me)) (ap (λ id. Some id) (greeting-id (shown_part s me) v me)) other stays
