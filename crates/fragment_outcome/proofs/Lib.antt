mod OnTheWay
mod Texts
