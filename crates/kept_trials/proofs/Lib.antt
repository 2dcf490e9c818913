mod OneRest
mod NoDamage
