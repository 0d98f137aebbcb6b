mod Blaming
mod OneStripe
mod StripesWalking
